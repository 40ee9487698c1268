use Rattle.std.proofs.Common.{◌≡◌, ◌+◌}
use Rattle.search_forest.specs.Low.{Tells}
use Rattle.search_forest.proofs.low_points.numbers_from_zero.Given as goal

abbrev pub invariant-loop-number : goal.invariant-loop-number
invariant-loop-number g l = Tells 0 (λ v. v) l.number l.numbers.items × (l.steps ≡ l.initial.steps + l.number)
