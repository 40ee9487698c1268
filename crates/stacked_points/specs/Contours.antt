-- Contours, and what lies under them. A point whose coordinates need not be whole is given k times, as the pair q.
use Rattle.std.specs.Prelude.{◌≡◌, ℕ, ◌+◌, ◌*◌, ◌<◌, ◌≤◌, ◌⊎◌, Bool, true, false, List, [], ◌∷◌, ◌++◌, All, Any, AllPairs}
use Rattle.plane_points.specs.Turning.{turns_left}
use Rattle.plane_points.specs.Segments.{weighted, times}

-- each member and the next one are related
abbrev pub Successive : (ℕ × ℕ → ℕ × ℕ → Type 0) → List (ℕ × ℕ) → Type 0
Successive R [] = Unit {0}
Successive R (a ∷ []) = Unit {0}
Successive R (a ∷ b ∷ l) = R a b × Successive R (b ∷ l)

-- points from left to right; the edges of the contour lead from each to the next one
abbrev pub IsContour : List (ℕ × ℕ) → Type 0
IsContour points = AllPairs (λ a b. a.0 < b.0) points

-- q lies neither to the left of a nor to the right of b
abbrev pub IsBetween : ℕ → ℕ × ℕ → ℕ × ℕ → ℕ × ℕ → Type 0
IsBetween k a b q = (k * a.0 ≤ q.0) × (q.0 ≤ k * b.0)

-- q is over the line from a to b
abbrev pub is_over : ℕ → ℕ × ℕ → ℕ × ℕ → ℕ × ℕ → Bool
is_over k a b q = turns_left (times k a) (times k b) q

-- q is within the ends of the contour, and not over an edge between whose ends it lies
pub record IsUnder (contour : List (ℕ × ℕ)) (k : ℕ) (q : ℕ × ℕ) : Type 0 where
  pub right : Any (λ a. k * a.0 ≤ q.0) contour
  pub left : Any (λ b. q.0 ≤ k * b.0) contour
  pub under : Successive (λ a b. IsBetween k a b q → is_over k a b q ≡ false) contour

-- so are all points of the segment from a to b
abbrev pub IsSegmentUnder : List (ℕ × ℕ) → ℕ × ℕ → ℕ × ℕ → Type 0
IsSegmentUnder contour a b = (s t : ℕ) → 0 < s + t → IsUnder contour (s + t) (weighted s a t b)

-- the points from a to b, with those of the list between them
abbrev pub stretch : ℕ × ℕ → List (ℕ × ℕ) → ℕ × ℕ → List (ℕ × ℕ)
stretch a inner b = a ∷ (inner ++ b ∷ [])

-- the contour with this stretch, and the points before and after it
abbrev pub contour_of : List (ℕ × ℕ) → ℕ × ℕ → List (ℕ × ℕ) → ℕ × ℕ → List (ℕ × ℕ) → List (ℕ × ℕ)
contour_of before a inner b after = before ++ a ∷ (inner ++ b ∷ after)

-- v is between the ends of the stretch, above each of its points and over each of its edges
pub record Overlooks (v a : ℕ × ℕ) (inner : List (ℕ × ℕ)) (b : ℕ × ℕ) : Type 0 where
  pub between : (a.0 < v.0) × (v.0 < b.0)
  pub above : All (λ c. c.1 < v.1) (stretch a inner b)
  pub over : Successive (λ c d. turns_left c d v ≡ true) (stretch a inner b)

-- seen from c, two of the three turns from x to b, from b to y and from y to x are to the left
abbrev pub TwoTurnLeft : ℕ × ℕ → ℕ × ℕ → ℕ × ℕ → ℕ × ℕ → Type 0
TwoTurnLeft c x b y = ((turns_left c x b ≡ true) × (turns_left c b y ≡ true)) ⊎ (((turns_left c b y ≡ true) × (turns_left c y x ≡ true)) ⊎ ((turns_left c y x ≡ true) × (turns_left c x b ≡ true)))
