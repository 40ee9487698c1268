-- What is proved of drawings, as statements.
use Rattle.std.specs.Prelude.{◌≡◌, ℕ, ◌<◌, Bool, true, List, length}
use Rattle.multigraph.specs.Graph.{Multigraph, IsGraph}
use Rattle.rotations.specs.Rotation.{IsRotationSystem}
use Rattle.triangulations.specs.Triangulation.{IsTriangulation}
use Rattle.stacked_maps.specs.Drawn.{IsDrawnUnder}
use Rattle.grid_drawing.specs.Drawing.{point_at, IsDrawing}

-- where all vertices of a triangulation of a graph stay and are drawn under its contour, their points are a drawing of the graph
abbrev pub DrawnIsDrawing : Type 0
DrawnIsDrawing = (g : Multigraph) (r : List (List ℕ)) (m : ℕ) (h : Multigraph) (next previous : ℕ → ℕ) (base : ℕ) (stays : ℕ → Bool) (contour : List ℕ) (points : List (ℕ × ℕ))
    → IsGraph g → IsRotationSystem g r → IsTriangulation g r m h next previous → ((v : ℕ) → v < g.vertex_count → stays v ≡ true)
    → IsDrawnUnder m h next base stays contour (point_at points) → length points ≡ g.vertex_count → IsDrawing g r points
