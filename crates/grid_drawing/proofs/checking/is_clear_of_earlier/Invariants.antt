-- The earlier edges so far are clear of this one.
use Rattle.std.proofs.Common.{◌≡◌, ℕ, ◌<◌, true}
use Rattle.multigraph.specs.Graph.{ends_of}
use Rattle.grid_drawing.specs.Drawing.{point_at}
use Rattle.grid_drawing.specs.Tests as tests
use Rattle.grid_drawing.proofs.checking.is_clear_of_earlier.Given as goal

abbrev pub invariant-loop-f : goal.invariant-loop-f
invariant-loop-f l = (f : ℕ) → f < l.f → tests.is_clear (point_at l.fn.points) (ends_of l.fn.g l.fn.e) (ends_of l.fn.g f) ≡ true
