-- The edges so far are clear of all earlier ones.
use Rattle.std.proofs.Common.{◌≡◌, ℕ, ◌<◌, true}
use Rattle.multigraph.specs.Graph.{ends_of}
use Rattle.grid_drawing.specs.Drawing.{point_at}
use Rattle.grid_drawing.specs.Tests as tests
use Rattle.grid_drawing.proofs.checking.are_clear.Given as goal

abbrev pub invariant-loop-e : goal.invariant-loop-e
invariant-loop-e l = (e f : ℕ) → e < l.e → f < e → tests.is_clear (point_at l.fn.points) (ends_of l.fn.g e) (ends_of l.fn.g f) ≡ true
