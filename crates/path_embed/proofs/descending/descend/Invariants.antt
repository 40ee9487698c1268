use Rattle.graph_theory.specs.Triconnected.{IsTriconnected}
use Rattle.multigraph.specs.Graph.{edge_count}
use Rattle.path_embed.specs.Planar.{HasNoPlaneSystem}
use Rattle.path_embed.specs.Chain.{IsChain}
use Rattle.path_embed.proofs.descending.descend.Given as goal

abbrev pub invariant-down : goal.invariant-down
invariant-down l = record {
  chain : IsChain l.g l.levels.items l.bottom;
  triconnected : IsTriconnected l.bottom;
  nonplanar : HasNoPlaneSystem l.bottom;
}

abbrev pub decreases-down : goal.decreases-down
decreases-down l = edge_count l.bottom
