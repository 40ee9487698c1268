use Rattle.std.proofs.Common.{◌≡◌, ◌<◌, ℕ, List, length, slice_index, refl, sym, ◌∙◌, subst}
use Rattle.multigraph.specs.Graph.{Multigraph, edge_count}
use Rattle.multigraph.specs.Part.{IsPart}
use Rattle.graph_theory.specs.Block.{IsOneBlock}
use Rattle.blocks.specs.Blocks.{block_at}
use Rattle.blocks.proofs.BlockParts.{block-edges_in, part-one_block}
use Rattle.pair_split.specs.Tutte.{IsTutte}
use Rattle.skeletons.specs.Items.{IsBlockTree}
use Rattle.skel_embed.specs.Planes.{IsOutcome}
use Rattle.embed_tests.proofs.whole_graphs.member_of.Goals as goal

pub part-requires-clause-within : goal.part-requires-clause-within
part-requires-clause-within c =
    subst (λ (edges : List ℕ). (i : ℕ) → i < length edges → slice_index edges i < edge_count c.args.graph.now) (sym c.edges.ensures)
    (block-edges_in c.args.graph.now c.args.blocks.now.blocks c.args.b c.requires.structure.blocks c.requires.block)

pub split-requires : goal.split-requires
split-requires c =
    let blocks = c.args.blocks.now.blocks in
    let is : IsPart c.args.graph.now (block_at blocks c.args.b) c.in_ok-part.part = subst (λ (edges : List ℕ). IsPart c.args.graph.now edges c.in_ok-part.part) c.edges.ensures (c.in_ok-part.ensures {u = tt}) in
    subst (λ (part : Multigraph). IsOneBlock part) (sym c.graph.ensures.value) (part-one_block c.args.graph.now blocks c.args.b c.in_ok-part.part c.requires.structure.blocks c.requires.block is)

pub assemble-requires-clause-block : goal.assemble-requires-clause-block
assemble-requires-clause-block c =
    let blocks = c.args.blocks.now.blocks in
    let is : IsPart c.args.graph.now (block_at blocks c.args.b) c.in_ok-part.part = subst (λ (edges : List ℕ). IsPart c.args.graph.now edges c.in_ok-part.part) c.edges.ensures (c.in_ok-part.ensures {u = tt}) in
    subst (λ (part : Multigraph). IsOneBlock part) (sym c.graph-2.ensures.value) (part-one_block c.args.graph.now blocks c.args.b c.in_ok-part.part c.requires.structure.blocks c.requires.block is)

pub plane_block-requires : goal.plane_block-requires
plane_block-requires c =
    let blocks = c.args.blocks.now.blocks in
    let part = c.in_ok-part.part in
    let is : IsPart c.args.graph.now (block_at blocks c.args.b) part = subst (λ (edges : List ℕ). IsPart c.args.graph.now edges part) c.edges.ensures (c.in_ok-part.ensures {u = tt}) in
    let copied : c.in_ok-copy.field-0 ≡ part.graph = c.in_ok-copy.ensures {u = tt} ∙ c.graph-3.ensures.value in
    subst (λ (x : Multigraph). IsBlockTree x c.in_ok-tree.tree) (sym copied) (record {
      graph = is.numbered.is_graph;
      block = part-one_block c.args.graph.now blocks c.args.b part c.requires.structure.blocks c.requires.block is;
      tree = subst (λ (x : Multigraph). IsTutte x c.in_ok-tree.tree) c.graph-2.ensures.value (c.in_ok-tree.ensures {u = tt});
    })

pub returns-in-Plane : goal.returns-in-Plane
returns-in-Plane c =
    let part = c.in_ok-part.part in
    let copied : c.in_ok-copy.field-0 ≡ part.graph = c.in_ok-copy.ensures {u = tt} ∙ c.graph-3.ensures.value in
    let outcome = subst (IsOutcome c.in_ok-copy.field-0 c.in_ok-tree.tree) c.in-Plane.is (c.in_ok-plane.ensures {u = tt}) in
    record {
      part = subst (λ (edges : List ℕ). IsPart c.args.graph.now edges part) c.edges.ensures (c.in_ok-part.ensures {u = tt});
      state = c.in-Plane.plane;
      plane = refl;
      graph = outcome.0 ∙ copied;
      is_state = c.belongs.ensures;
    }
