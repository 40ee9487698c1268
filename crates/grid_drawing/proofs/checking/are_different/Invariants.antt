-- The vertices so far have points of their own.
use Rattle.std.proofs.Common.{ℕ, ◌<◌, ◌≢◌}
use Rattle.grid_drawing.specs.Drawing.{point_at}
use Rattle.grid_drawing.proofs.checking.are_different.Given as goal

abbrev pub invariant-loop-v : goal.invariant-loop-v
invariant-loop-v l = (v u : ℕ) → v < l.v → u < v → point_at l.fn.points u ≢ point_at l.fn.points v
