use Rattle.std.proofs.Common.{◌<◌, ℕ, List, refl, sym, subst}
use Rattle.std.proofs.lemmas.Option.{MatchOption-at_none, MatchOption-at_some}
use Rattle.multigraph.specs.Graph.{Multigraph, edge_count}
use Rattle.graph_theory.specs.Triconnected.{IsTriconnected}
use Rattle.minimal_graphs.specs.Laws.{IsPlaneWithout}
use Rattle.minimal_graphs.proofs.Minimal.{minimal-pattern}
use Rattle.path_embed.specs.Planar.{HasNoPlaneSystem}
use Rattle.path_embed.specs.Found.{IsSmaller}
use Rattle.path_embed.specs.Chain.{IsChain}
use Rattle.path_embed.specs.declared.descending.Level.{Level}
use Rattle.path_embed.proofs.Chain.{chain-push}
use Rattle.path_embed.proofs.descending.descend.Goals as goal

pub down-preserved : goal.down-preserved
down-preserved c =
    let g = c.args.g.now in
    let found : IsSmaller c.down.bottom c.in-Some.obstacle = MatchOption-at_some ((f : ℕ) → f < edge_count c.down.bottom → IsPlaneWithout c.down.bottom f) (IsSmaller c.down.bottom) c.in-Some.obstacle c.in-Some.is c.in_ok-obstacle.ensures in
    record {
      chain = subst (λ (h : Multigraph). IsChain g c.push.new.self.items h) (sym c.in_ok-skeleton.ensures)
          (subst (λ (l : List Level). IsChain g l c.in-Some.obstacle.skeleton) (sym c.in_ok-push.ensures.items)
          (chain-push g c.down.levels.items c.down.bottom (record { outer = c.down.bottom; obstacle = c.in-Some.obstacle }) c.down.invariant.chain refl found.0));
      triconnected = subst IsTriconnected (sym c.in_ok-skeleton.ensures) found.0.node.triconnected;
      nonplanar = subst HasNoPlaneSystem (sym c.in_ok-skeleton.ensures) found.0.node.nonplanar;
    }

pub returns-clause-pattern : goal.returns-clause-pattern
returns-clause-pattern c =
    minimal-pattern c.down.bottom c.keeps_limits.ensures.graph c.down.invariant.triconnected c.down.invariant.nonplanar
    (MatchOption-at_none ((f : ℕ) → f < edge_count c.down.bottom → IsPlaneWithout c.down.bottom f) (IsSmaller c.down.bottom) c.in_default.is c.in_ok-obstacle.ensures)
