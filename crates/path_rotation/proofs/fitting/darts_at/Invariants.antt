-- The darts of the drawn edges so far.
use Rattle.std.proofs.Common.{◌≡◌, map, filter, take}
use Rattle.multigraph.specs.Graph.{incident_edges}
use Rattle.multigraph.specs.Marks.{is_marked}
use Rattle.multigraph.specs.Darts.{dart_from}
use Rattle.path_rotation.proofs.fitting.darts_at.Given as goal

abbrev pub invariant-loop-edge : goal.invariant-loop-edge
invariant-loop-edge l = l.darts.items ≡ map (dart_from l.fn.g l.fn.v) (filter (is_marked l.fn.drawn) (take l.edge-index (incident_edges l.fn.g l.fn.v)))
