use Rattle.std.proofs.Common.{◌<◌, ℕ, length, refl, sym, subst}
use Rattle.std.proofs.lemmas.Option.{MatchOption-at_none, MatchOption-at_some}
use Rattle.multigraph.specs.Graph.{Multigraph}
use Rattle.graph_theory.specs.Block.{IsOneBlock}
use Rattle.pair_split.specs.Tutte.{IsTutte}
use Rattle.path_embed.specs.Planar.{IsPlanarNode, IsNonplanarNode}
use Rattle.path_embed.proofs.Decisions.{block-planar}
use Rattle.path_embed.proofs.deciding.obstacle_in.Goals as goal

pub split-requires : goal.split-requires
split-requires c = subst IsOneBlock (sym c.graph.ensures.value) c.requires.one

pub assemble-requires-clause-block : goal.assemble-requires-clause-block
assemble-requires-clause-block c = subst IsOneBlock (sym c.graph-2.ensures.value) c.requires.one

pub nonplanar_node-requires : goal.nonplanar_node-requires
nonplanar_node-requires c =
    let is = c.requires.part.is_part in
    record {
      block = (
        c.args.block.graph,
        record {
          graph = is.numbered.is_graph;
          block = c.requires.one;
          tree = subst (λ (z : Multigraph). IsTutte z c.in_ok-tree.tree) c.graph-2.ensures.value c.in_ok-tree.ensures;
        },
        is.numbered.limits,
      );
    }

pub returns-in-Some : goal.returns-in-Some
returns-in-Some c =
    let is = c.requires.part.is_part in (
      record {
        block = c.requires.part;
        tree = record {
          graph = is.numbered.is_graph;
          block = c.requires.one;
          tree = subst (λ (z : Multigraph). IsTutte z c.in_ok-tree.tree) c.graph-2.ensures.value c.in_ok-tree.ensures;
        };
        node = MatchOption-at_some ((k : ℕ) → k < length c.in_ok-tree.tree → IsPlanarNode c.in_ok-tree.tree k) (λ (found : ℕ × Multigraph). IsNonplanarNode c.in_ok-tree.tree found.0 found.1) c.in-Some.found c.in-Some.is c.in_ok-answer.ensures;
      },
      refl,
    )

pub returns-in-None : goal.returns-in-None
returns-in-None c =
    let is = c.requires.part.is_part in
    block-planar c.args.block.graph c.in_ok-tree.tree (record {
      graph = is.numbered.is_graph;
      block = c.requires.one;
      tree = subst (λ (z : Multigraph). IsTutte z c.in_ok-tree.tree) c.graph-2.ensures.value c.in_ok-tree.ensures;
    }) (MatchOption-at_none ((k : ℕ) → k < length c.in_ok-tree.tree → IsPlanarNode c.in_ok-tree.tree k) (λ (found : ℕ × Multigraph). IsNonplanarNode c.in_ok-tree.tree found.0 found.1) c.in-None.is c.in_ok-answer.ensures)
