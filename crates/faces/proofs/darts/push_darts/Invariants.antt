-- The darts of the edges so far.
use Rattle.std.proofs.Common.{◌≡◌, ◌++◌, map, take}
use Rattle.multigraph.specs.Graph.{incident_edges}
use Rattle.faces.specs.Euler.{dart_from}
use Rattle.faces.proofs.darts.push_darts.Given as goal

abbrev pub invariant-loop-edge : goal.invariant-loop-edge
invariant-loop-edge l = l.darts.items ≡ l.initial.darts.items ++ map (dart_from l.graph l.vertex) (take l.edge-index (incident_edges l.graph l.vertex))
