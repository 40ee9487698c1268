-- What is proved, as a statement.
use Rattle.std.specs.Prelude.{◌≡◌, ℕ, ◌^◌, ◌<◌, ◌≤◌, false, List}
use Rattle.multigraph.specs.Graph.{Multigraph, IsGraph}
use Rattle.graph_theory.specs.Connected.{IsConnected}
use Rattle.faces.specs.Euler.{IsPlaneSystem}
use Rattle.grid_drawing.specs.Parallel.{has_parallel}
use Rattle.grid_drawing.specs.Grid.{IsGridDrawing}

-- a connected graph of two vertices or more, and fewer than 2^32, has a drawing on the grid in the order of each plane rotation system,
-- where no two of its edges have the same ends
abbrev pub DrawingExists : Type 0
DrawingExists = (g : Multigraph) (r : List (List ℕ)) → IsGraph g → g.vertex_count < 2 ^ 32 → IsConnected g → 2 ≤ g.vertex_count → IsPlaneSystem g r → has_parallel g ≡ false
    → (points : List (ℕ × ℕ)) × IsGridDrawing g r points
