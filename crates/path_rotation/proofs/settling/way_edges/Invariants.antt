-- Those of the edges so far.
use Rattle.std.proofs.Common.{◌≡◌, filter}
use Rattle.multigraph.specs.Graph.{numbers_below}
use Rattle.path_rotation.specs.Settling.{is_way_edge}
use Rattle.path_rotation.proofs.settling.way_edges.Given as goal

abbrev pub invariant-loop-e : goal.invariant-loop-e
invariant-loop-e l = l.edges.items ≡ filter (is_way_edge l.fn.g l.fn.on l.fn.z) (numbers_below l.e)
