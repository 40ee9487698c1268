use Rattle.std.proofs.Common.{◌≡◌, ◌<◌, ℕ, length}
use Rattle.contract_obstruct.specs.Obstruction.{rotated, ShowsNothing}
use Rattle.contract_obstruct.proofs.obstructing.obstruct.Given as goal

abbrev pub invariant-loop-start : goal.invariant-loop-start
invariant-loop-start l = record {
  size : length l.order.items ≡ length l.initial.order.items;
  turned : l.order.items ≡ rotated l.initial.order.items l._start;
  nothing : (t : ℕ) → t < l._start → ShowsNothing l.level (rotated l.initial.order.items t);
}
