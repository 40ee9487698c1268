-- None of the edges so far has a later one with the same ends.
use Rattle.std.proofs.Common.{◌≡◌, ℕ, ◌<◌, false}
use Rattle.grid_drawing.specs.Parallel.{has_later}
use Rattle.grid_drawing.proofs.parallel.first_parallel.Given as goal

abbrev pub invariant-loop-a : goal.invariant-loop-a
invariant-loop-a l = (x : ℕ) → x < l.a → has_later l.fn.g x ≡ false
