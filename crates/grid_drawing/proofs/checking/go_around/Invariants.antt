-- Around the vertices so far the edges are met counterclockwise.
use Rattle.std.proofs.Common.{ℕ, ◌<◌, ◌≤◌}
use Rattle.plane_points.specs.Turning.{falls_around}
use Rattle.grid_drawing.specs.Drawing.{point_at, points_around}
use Rattle.grid_drawing.proofs.checking.go_around.Given as goal

abbrev pub invariant-loop-v : goal.invariant-loop-v
invariant-loop-v l = (v : ℕ) → v < l.v → falls_around (point_at l.fn.points v) (points_around l.fn.g l.fn.r l.fn.points v) ≤ 1
