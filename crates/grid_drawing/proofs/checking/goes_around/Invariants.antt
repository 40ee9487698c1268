-- Whether one of the edges so far falls back, and the last of them.
use Rattle.std.proofs.Common.{◌≡◌, ◌++◌, cond, map}
use Rattle.multigraph.specs.Graph.{other_end}
use Rattle.plane_points.proofs.Falls.{steps, last_of}
use Rattle.grid_drawing.specs.Drawing.{point_at}
use Rattle.grid_drawing.proofs.checking.goes_around.Given as goal

abbrev pub invariant-loop-e : goal.invariant-loop-e
invariant-loop-e l = (l.yielded ++ l.e-iterator ≡ l.initial.e-iterator)
    × (steps l.center l.first (map (λ e. point_at l.fn.points (other_end l.fn.g e l.fn.v)) l.yielded) ≡ cond l.fell 1 0)
    × (l.before ≡ last_of l.first (map (λ e. point_at l.fn.points (other_end l.fn.g e l.fn.v)) l.yielded))
