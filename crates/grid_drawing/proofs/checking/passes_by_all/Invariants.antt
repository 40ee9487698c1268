-- The segment goes through none of the vertices so far but its ends.
use Rattle.std.proofs.Common.{◌≡◌, ℕ, ◌<◌, true}
use Rattle.grid_drawing.specs.Drawing.{point_at}
use Rattle.grid_drawing.specs.Tests as tests
use Rattle.grid_drawing.proofs.checking.passes_by_all.Given as goal

abbrev pub invariant-loop-v : goal.invariant-loop-v
invariant-loop-v l = (v : ℕ) → v < l.v → tests.passes_by l.fn.g (point_at l.fn.points) l.fn.e v ≡ true
