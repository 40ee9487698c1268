-- The vertices so far have other points.
use Rattle.std.proofs.Common.{ℕ, ◌<◌, ◌≢◌}
use Rattle.grid_drawing.specs.Drawing.{point_at}
use Rattle.grid_drawing.proofs.checking.is_new.Given as goal

abbrev pub invariant-loop-u : goal.invariant-loop-u
invariant-loop-u l = (u : ℕ) → u < l.u → point_at l.fn.points u ≢ point_at l.fn.points l.fn.v
