use Rattle.std.proofs.Common.{◌<◌, ℕ, List, length, slice_index, None, sym, subst}
use Rattle.multigraph.specs.Graph.{Multigraph, edge_count}
use Rattle.multigraph.specs.Part.{IsPart}
use Rattle.blocks.specs.Blocks.{block_at}
use Rattle.graph_theory.specs.Block.{IsOneBlock}
use Rattle.spqr_session.specs.Embedded.{IsFound, AreStartBlocks}
use Rattle.spqr_session.proofs.BlockParts.{block-tree}
use Rattle.blocks.proofs.BlockParts.{block-edges_in, part-one_block}
use Rattle.spqr_session.proofs.Outcomes.{outcome-embedded, outcome-starts}
use Rattle.spqr_session.proofs.embedded.embedded_block.Goals as goal

pub part-requires-clause-within : goal.part-requires-clause-within
part-requires-clause-within g c =
    let blocks = c.args.blocks.now.blocks in
    subst (λ (edges : List ℕ). (i : ℕ) → i < length edges → slice_index edges i < edge_count c.args.graph.now) (sym c.edges.ensures) (block-edges_in c.args.graph.now blocks c.args.b c.requires.structure.blocks c.requires.block)

pub outcome_of-requires-clause-block : goal.outcome_of-requires-clause-block
outcome_of-requires-clause-block g c =
    let blocks = c.args.blocks.now.blocks in
    let is : IsPart c.args.graph.now (block_at blocks c.args.b) c.in_ok-part.part = subst (λ (edges : List ℕ). IsPart c.args.graph.now edges c.in_ok-part.part) c.edges.ensures c.in_ok-part.ensures in
    subst IsOneBlock (sym c.graph.ensures.value) (part-one_block c.args.graph.now blocks c.args.b c.in_ok-part.part c.requires.structure.blocks c.requires.block is)

pub outcome_of-requires-clause-start : goal.outcome_of-requires-clause-start
outcome_of-requires-clause-start g c =
    let blocks = c.args.blocks.now.blocks in
    (c.args.graph.now, blocks, subst (λ (n : ℕ). AreStartBlocks None c.args.graph.now blocks n c.args.before.now) (sym c.requires.start.one_each) c.requires.start)

pub invariant_of-result : goal.invariant_of-result
invariant_of-result g c =
    let blocks = c.args.blocks.now.blocks in
    let part = c.in_ok-part.part in
    let outcome = c.in_ok-outcome.outcome in
    let is : IsPart c.args.graph.now (block_at blocks c.args.b) part = subst (λ (edges : List ℕ). IsPart c.args.graph.now edges part) c.edges.ensures c.in_ok-part.ensures in
    let found : IsFound part.graph outcome = subst (λ (x : Multigraph). IsFound x outcome) c.graph.ensures.value c.in_ok-outcome.ensures in
    let tree = block-tree c.args.graph.now blocks c.args.b part found.nodes c.requires.structure.blocks c.requires.block is found.tree in
    outcome-embedded c.subdivision_excludes_plane.ensures part found.nodes tree outcome c.keeps_together.ensures found.found

pub returns : goal.returns
returns g c =
    let blocks = c.args.blocks.now.blocks in
    let part = c.in_ok-part.part in
    let outcome = c.in_ok-outcome.outcome in
    let is : IsPart c.args.graph.now (block_at blocks c.args.b) part = subst (λ (edges : List ℕ). IsPart c.args.graph.now edges part) c.edges.ensures c.in_ok-part.ensures in
    let found : IsFound part.graph outcome = subst (λ (x : Multigraph). IsFound x outcome) c.graph.ensures.value c.in_ok-outcome.ensures in
    let tree = block-tree c.args.graph.now blocks c.args.b part found.nodes c.requires.structure.blocks c.requires.block is found.tree in
    outcome-starts c.subdivision_excludes_plane.ensures part found.nodes tree c.args.graph.now (block_at blocks c.args.b) outcome c.keeps_together.ensures found.found (record { part = is; nodes = found.tree })
