-- What is proved of drawings under a contour, as statements.
use Rattle.std.specs.Prelude.{◌≡◌, ℕ, ◌*◌, ◌<◌, Bool, List, [], ◌∷◌, map, ◌||◌, ◌==◌}
use Rattle.dart_maps.specs.Map.{twin}
use Rattle.multigraph.specs.Graph.{Multigraph}
use Rattle.faces.specs.Euler.{tail}
use Rattle.triangulations.specs.Triangulation.{IsTriangulated}
use Rattle.canonical_orders.specs.Contours.{IsContour, IsRemoval}
use Rattle.canonical_orders.specs.Order.{IsStacked}
use Rattle.stacked_maps.specs.Drawn.{IsDrawnUnder, OverlooksAll, start_of}

-- the base alone, its first end to the left of its second at the same height, is drawn under its contour
abbrev pub BaseIsDrawn : Type 0
BaseIsDrawn = (m : ℕ) (h : Multigraph) (next previous : ℕ → ℕ) (base : ℕ) (stays : ℕ → Bool) (at : ℕ → ℕ × ℕ) → IsTriangulated m h next previous → base < 2 * m
    → ((v : ℕ) → stays v ≡ ((v == tail h base) || (v == tail h (twin base))))
    → (at (tail h base)).0 < (at (tail h (twin base))).0 → (at (tail h base)).1 ≡ (at (tail h (twin base))).1
    → IsDrawnUnder m h next base stays (base ∷ twin base ∷ []) at

-- a vertex that overlooks its neighbours on the contour, and is higher than the ends of the contour, is stacked on the drawing
abbrev pub StackingKeepsDrawings : Type 0
StackingKeepsDrawings = (m : ℕ) (h : Multigraph) (next previous : ℕ → ℕ) (base : ℕ) (before after : ℕ → Bool) (contour later : List ℕ) (w : ℕ) (heads : List ℕ) (at : ℕ → ℕ × ℕ)
    → IsTriangulated m h next previous → IsContour m h next base before contour → IsContour m h next base after later
    → IsRemoval h next contour later w heads → IsStacked m h next base before after later w heads
    → IsDrawnUnder m h next base after later at → OverlooksAll (at w) (map at heads) → (start_of h at base).1 < (at w).1
    → IsDrawnUnder m h next base before contour at
