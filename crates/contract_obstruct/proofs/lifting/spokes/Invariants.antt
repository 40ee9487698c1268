use Rattle.std.proofs.Common.{◌≡◌, filter}
use Rattle.multigraph.specs.Graph.{numbers_below}
use Rattle.kuratowski.specs.Subdivision.{pattern_edges}
use Rattle.planarity.specs.Lift.{is_listed}
use Rattle.contract_obstruct.proofs.lifting.spokes.Given as goal

abbrev pub invariant-loop-i : goal.invariant-loop-i
invariant-loop-i l = l.joined.items ≡ filter (is_listed (pattern_edges l.kind) l.m) (numbers_below l.i)
