-- What is proved of contours and removals, as statements.
use Rattle.std.specs.Prelude.{◌≡◌, ◌⊎◌, ℕ, ◌*◌, ◌<◌, Bool, true, false, ◌||◌, ◌==◌, List, [], ◌∷◌, ◌++◌}
use Rattle.permutations.specs.Members.{is_distinct}
use Rattle.permutations.specs.Cyclic.{first_or, last_or}
use Rattle.dart_maps.specs.Map.{twin, face}
use Rattle.multigraph.specs.Graph.{Multigraph}
use Rattle.faces.specs.Euler.{tail}
use Rattle.triangulations.specs.Triangulation.{IsTriangulated}
use Rattle.canonical_orders.specs.Contours.{darts_around, IsContour, IsRemoval}
use Rattle.canonical_orders.specs.Free.{IsFreeAt}
use Rattle.canonical_orders.specs.Order.{IsStacked}

-- the list has members, x is the first and z the last
pub record GoesFromTo (x z : ℕ) (l : List ℕ) : Type 0 where
  pub rest : List ℕ
  pub begins : l ≡ x ∷ rest
  pub ends : last_or x rest ≡ z

-- around the vertex of a contour dart x, the darts that stay go from x, the dart to the left neighbour, to the dart to the right neighbour,
-- the twin of the next contour dart; around the last vertex of the contour they end with the twin of the base
abbrev pub ContourIsAround : Type 0
ContourIsAround = (m : ℕ) (h : Multigraph) (next previous : ℕ → ℕ) (base : ℕ) (stays : ℕ → Bool) (contour : List ℕ) → IsTriangulated m h next previous → base < 2 * m
    → IsContour m h next base stays contour → (front back : List ℕ) (x : ℕ) → contour ≡ front ++ x ∷ back → GoesFromTo x (twin (first_or base back)) (darts_around m h next stays x)

-- where all vertices stay, the contour is the triangle of the base
abbrev pub TriangleIsContour : Type 0
TriangleIsContour = (m : ℕ) (h : Multigraph) (next previous : ℕ → ℕ) (base : ℕ) (stays : ℕ → Bool) → IsTriangulated m h next previous → base < 2 * m
    → ((d : ℕ) → d < 2 * m → stays (tail h d) ≡ true) → IsContour m h next base stays (base ∷ face next (face next base) ∷ face next base ∷ [])

-- where only the two ends of the base stay, the contour is the base and its twin
abbrev pub LastContourIsBase : Type 0
LastContourIsBase = (m : ℕ) (h : Multigraph) (next previous : ℕ → ℕ) (base : ℕ) (stays : ℕ → Bool) (contour : List ℕ) → IsTriangulated m h next previous → base < 2 * m
    → IsContour m h next base stays contour → ((v : ℕ) → stays v ≡ true → (v ≡ tail h base) ⊎ (v ≡ tail h (twin base))) → contour ≡ base ∷ twin base ∷ []

-- where a free vertex of a contour is removed, and its arms lead to different vertices, a contour is left
abbrev pub RemovalKeepsContours : Type 0
RemovalKeepsContours = (m : ℕ) (h : Multigraph) (next previous : ℕ → ℕ) (base : ℕ) (before after : ℕ → Bool) (contour later : List ℕ) (w : ℕ) (heads : List ℕ)
    → IsTriangulated m h next previous → base < 2 * m → IsContour m h next base before contour → IsFreeAt m h contour w → IsRemoval h next contour later w heads → is_distinct heads ≡ true
    → ((v : ℕ) → before v ≡ (after v || (v == w))) → after w ≡ false → IsContour m h next base after later

-- where both before and after a removal there is a contour, the removed vertex is stacked on the contour after it
abbrev pub RemovalIsStacked : Type 0
RemovalIsStacked = (m : ℕ) (h : Multigraph) (next previous : ℕ → ℕ) (base : ℕ) (before after : ℕ → Bool) (contour later : List ℕ) (w : ℕ) (heads : List ℕ)
    → IsTriangulated m h next previous → base < 2 * m → IsContour m h next base before contour → IsContour m h next base after later → IsRemoval h next contour later w heads
    → ((v : ℕ) → before v ≡ (after v || (v == w))) → after w ≡ false → before w ≡ true → IsStacked m h next base before after later w heads
