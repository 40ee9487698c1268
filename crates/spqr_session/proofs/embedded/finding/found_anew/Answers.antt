use Rattle.std.proofs.Common.{sym, subst}
use Rattle.multigraph.specs.Graph.{Multigraph}
use Rattle.skeletons.specs.Items as items
use Rattle.skel_embed.specs.Planes.{IsOutcome}
use Rattle.spqr_session.proofs.embedded.finding.found_anew.Goals as goal

pub plane_block-requires : goal.plane_block-requires
plane_block-requires g c =
    subst (λ (x : Multigraph). items.IsBlockTree x c.in_ok-tree.tree) (sym c.in_ok-kept.ensures)
    (record { graph = c.keeps_limits.ensures.graph; block = c.requires; tree = c.in_ok-tree.ensures })

pub returns : goal.returns
returns g c = record {
  nodes = c.in_ok-tree.tree;
  tree = c.in_ok-tree.ensures;
  found = subst (λ (x : Multigraph). IsOutcome x c.in_ok-tree.tree c.in_ok-outcome.outcome) c.in_ok-kept.ensures c.in_ok-outcome.ensures;
}
