-- The darts from the vertices so far.
use Rattle.std.proofs.Common.{◌≡◌}
use Rattle.faces.specs.Trace.{darts_from_below}
use Rattle.faces.proofs.darts.darts_in_order.Given as goal

abbrev pub invariant-loop-vertex : goal.invariant-loop-vertex
invariant-loop-vertex l = l.darts.items ≡ darts_from_below l.graph l.vertex
