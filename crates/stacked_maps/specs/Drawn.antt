-- A map with some vertices that stay, drawn with straight lines under their contour. `at` gives the point of each vertex.
use Rattle.std.specs.Prelude.{◌≡◌, ◌≢◌, ◌⊎◌, ℕ, ◌+◌, ◌*◌, ◌<◌, Bool, true, List, [], ◌∷◌, ◌++◌, map}
use Rattle.permutations.specs.Members.{is_member}
use Rattle.dart_maps.specs.Map.{twin}
use Rattle.multigraph.specs.Graph.{Multigraph}
use Rattle.faces.specs.Euler.{tail}
use Rattle.plane_points.specs.Turning.{IsCounterclockwise}
use Rattle.plane_points.specs.Segments.{weighted, times}
use Rattle.stacked_points.specs.Contours as points
use Rattle.canonical_orders.specs.Contours.{stays_dart, darts_around}

-- the points of the contour, from left to right
abbrev pub contour_points : Multigraph → (ℕ → ℕ × ℕ) → List ℕ → List (ℕ × ℕ)
contour_points h at contour = map (λ d. at (tail h d)) contour

-- the point of the vertex that dart d leaves, and that of the one where it leads
abbrev pub start_of : Multigraph → (ℕ → ℕ × ℕ) → ℕ → ℕ × ℕ
start_of h at d = at (tail h d)

abbrev pub end_of : Multigraph → (ℕ → ℕ × ℕ) → ℕ → ℕ × ℕ
end_of h at d = at (tail h (twin d))

-- the vertex is an end of dart d
abbrev pub IsEndOf : Multigraph → ℕ → ℕ → Type 0
IsEndOf h d v = (v ≡ tail h d) ⊎ (v ≡ tail h (twin d))

-- the segments of the darts c and d have no point in common but that of a common end
abbrev pub MeetAtEnds : Multigraph → (ℕ → ℕ × ℕ) → ℕ → ℕ → Type 0
MeetAtEnds h at c d = (s t u w : ℕ) → 0 < s + t → s + t ≡ u + w → weighted s (start_of h at c) t (end_of h at c) ≡ weighted u (start_of h at d) w (end_of h at d)
    → (v : ℕ) × IsEndOf h c v × IsEndOf h d v × (weighted s (start_of h at c) t (end_of h at c) ≡ times (s + t) (at v))

-- the darts that stay are drawn under the contour: it goes from left to right, its two ends at the same height and all else on it higher,
-- nothing crosses, and the darts around each vertex are met counterclockwise
pub record IsDrawnUnder (m : ℕ) (h : Multigraph) (next : ℕ → ℕ) (base : ℕ) (stays : ℕ → Bool) (contour : List ℕ) (at : ℕ → ℕ × ℕ) : Type 0 where
  pub goes_right : points.IsContour (contour_points h at contour)
  pub level : (start_of h at base).1 ≡ (end_of h at base).1
  pub higher : (d : ℕ) → is_member d contour ≡ true → tail h d ≢ tail h base → tail h d ≢ tail h (twin base) → (start_of h at base).1 < (start_of h at d).1
  pub inside : (v : ℕ) → stays v ≡ true → points.IsUnder (contour_points h at contour) 1 (at v)
  pub under : (d : ℕ) → d < 2 * m → stays_dart h stays d ≡ true → points.IsSegmentUnder (contour_points h at contour) (start_of h at d) (end_of h at d)
  pub apart : (u v : ℕ) → stays u ≡ true → stays v ≡ true → at u ≡ at v → u ≡ v
  pub meet : (c d : ℕ) → c < 2 * m → d < 2 * m → stays_dart h stays c ≡ true → stays_dart h stays d ≡ true → c ≢ d → c ≢ twin d → MeetAtEnds h at c d
  pub around : (d : ℕ) → d < 2 * m → stays_dart h stays d ≡ true → IsCounterclockwise (start_of h at d) (map (end_of h at) (darts_around m h next stays d))

-- v overlooks the points, which are two or more: it is above all of them, over each edge between them, and between the first and the last one
pub record OverlooksAll (v : ℕ × ℕ) (row : List (ℕ × ℕ)) : Type 0 where
  pub first : ℕ × ℕ
  pub inner : List (ℕ × ℕ)
  pub last : ℕ × ℕ
  pub stretch : row ≡ first ∷ (inner ++ last ∷ [])
  pub overlooks : points.Overlooks v first inner last
