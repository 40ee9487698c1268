-- Drawings on the grid, and why there is none.
use Rattle.std.specs.Prelude.{◌≡◌, ℕ, ◌+◌, ◌*◌, ◌<◌, ◌≤◌, true, List, [], ◌∷◌, ⊤}
use Rattle.multigraph.specs.Graph.{Multigraph}
use Rattle.grid_drawing.specs.Drawing.{point_at, IsDrawing}
use Rattle.grid_drawing.specs.Parallel.{has_parallel, first_parallel, second_parallel}
use Rattle.grid_drawing.specs.declared.drawing.DrawFault.{DrawFault}
use Rattle.grid_drawing.specs.declared.drawing.DrawFault.TheVariants.{Parallel, Memory}

-- the points of n vertices are on the grid of width 2n - 4 and height n - 2, and two are next to each other
pub record IsOnGrid (n : ℕ) (points : List (ℕ × ℕ)) : Type 0 where
  pub wide : 3 ≤ n → (v : ℕ) → v < n → (point_at points v).0 + 4 ≤ 2 * n
  pub high : 3 ≤ n → (v : ℕ) → v < n → (point_at points v).1 + 2 ≤ n
  pub two : n ≡ 2 → points ≡ (0, 0) ∷ (1, 0) ∷ []

-- the points are a drawing of the graph with the rotation system, on that grid
pub record IsGridDrawing (g : Multigraph) (r : List (List ℕ)) (points : List (ℕ × ℕ)) : Type 0 where
  pub drawing : IsDrawing g r points
  pub grid : IsOnGrid g.vertex_count points

-- a graph is not drawn: these two edges are the least pair with the same ends, or memory ran out
abbrev pub IsDrawRefusal : Multigraph → DrawFault → Type 0
IsDrawRefusal g (Parallel a b) = (has_parallel g ≡ true) × (a ≡ first_parallel g) × (b ≡ second_parallel g)
IsDrawRefusal g Memory = ⊤
