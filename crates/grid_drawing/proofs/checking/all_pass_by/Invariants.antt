-- The edges so far go through no third vertex.
use Rattle.std.proofs.Common.{◌≡◌, ℕ, ◌<◌, true}
use Rattle.grid_drawing.specs.Drawing.{point_at}
use Rattle.grid_drawing.specs.Tests as tests
use Rattle.grid_drawing.proofs.checking.all_pass_by.Given as goal

abbrev pub invariant-loop-e : goal.invariant-loop-e
invariant-loop-e l = (e v : ℕ) → e < l.e → v < l.fn.g.vertex_count → tests.passes_by l.fn.g (point_at l.fn.points) e v ≡ true
