-- What is proved of a point v stacked on a contour, as statements.
use Rattle.std.specs.Prelude.{◌≡◌, ◌⊎◌, ℕ, ◌+◌, ◌<◌, true, false, List, [], ◌∷◌, All, AllPairs}
use Rattle.plane_points.specs.Turning.{turns_left, comes_before, IsCounterclockwise}
use Rattle.plane_points.specs.Segments.{weighted, times, same_way}
use Rattle.stacked_points.specs.Contours.{Successive, IsContour, IsBetween, is_over, IsUnder, IsSegmentUnder, stretch, contour_of, Overlooks, TwoTurnLeft}

-- seen from v, points below it with v over each edge come counterclockwise, each two with a turn to the left
abbrev pub FanTurns : Type 0
FanTurns = (v : ℕ × ℕ) (points : List (ℕ × ℕ)) → All (λ a. a.1 < v.1) points → Successive (λ a b. turns_left a b v ≡ true) points → AllPairs (λ a b. turns_left v a b ≡ true) points

-- so no two of them lie in one direction
abbrev pub FanIsApart : Type 0
FanIsApart = (v : ℕ × ℕ) (points : List (ℕ × ℕ)) → All (λ a. a.1 < v.1) points → Successive (λ a b. turns_left a b v ≡ true) points → AllPairs (λ a b. same_way v a b ≡ false) points

-- and the list goes counterclockwise around v
abbrev pub FanGoesAround : Type 0
FanGoesAround = (v : ℕ × ℕ) (points : List (ℕ × ℕ)) → All (λ a. a.1 < v.1) points → Successive (λ a b. turns_left a b v ≡ true) points → IsCounterclockwise v points

-- a point of the segment from v to a point w of the stretch, other than w, is over each edge between whose ends it lies
abbrev pub NewIsOver : Type 0
NewIsOver = (v a b : ℕ × ℕ) (inner : List (ℕ × ℕ)) → IsContour (stretch a inner b) → Overlooks v a inner b
    → All (λ w. (s t : ℕ) → 0 < s → Successive (λ c d. IsBetween (s + t) c d (weighted s v t w) → is_over (s + t) c d (weighted s v t w) ≡ true) (stretch a inner b)) (stretch a inner b)

-- such a point is under the contour only where it is w
abbrev pub NewMeetsOld : Type 0
NewMeetsOld = (v a b : ℕ × ℕ) (before inner after : List (ℕ × ℕ)) → IsContour (contour_of before a inner b after) → Overlooks v a inner b
    → All (λ w. (s t : ℕ) → 0 < s + t → IsUnder (contour_of before a inner b after) (s + t) (weighted s v t w) → weighted s v t w ≡ times (s + t) w) (stretch a inner b)

-- so it is a point of a segment under the contour only where it is w
abbrev pub NewMeetsSegments : Type 0
NewMeetsSegments = (v a b : ℕ × ℕ) (before inner after : List (ℕ × ℕ)) → IsContour (contour_of before a inner b after) → Overlooks v a inner b
    → All (λ w. (c d : ℕ × ℕ) → IsSegmentUnder (contour_of before a inner b after) c d → (s t m n : ℕ) → 0 < s + t → s + t ≡ m + n → weighted s v t w ≡ weighted m c n d → weighted s v t w ≡ times (s + t) w) (stretch a inner b)

-- v itself is not under the contour
abbrev pub NewIsNotUnder : Type 0
NewIsNotUnder = (v a b : ℕ × ℕ) (before inner after : List (ℕ × ℕ)) → IsContour (contour_of before a inner b after) → Overlooks v a inner b → (k : ℕ) → 0 < k → IsUnder (contour_of before a inner b after) k (times k v) → ⊥

-- with v in the place of the inner points it is a contour again
abbrev pub StaysContour : Type 0
StaysContour = (v a b : ℕ × ℕ) (before inner after : List (ℕ × ℕ)) → IsContour (contour_of before a inner b after) → Overlooks v a inner b → IsContour (contour_of before a (v ∷ []) b after)

-- what was under the contour is so still
abbrev pub OldStaysUnder : Type 0
OldStaysUnder = (v a b : ℕ × ℕ) (before inner after : List (ℕ × ℕ)) → IsContour (contour_of before a inner b after) → Overlooks v a inner b
    → (k : ℕ) (q : ℕ × ℕ) → 0 < k → IsUnder (contour_of before a inner b after) k q → IsUnder (contour_of before a (v ∷ []) b after) k q

-- and so are the segments from v to the points of the stretch
abbrev pub NewIsUnder : Type 0
NewIsUnder = (v a b : ℕ × ℕ) (before inner after : List (ℕ × ℕ)) → IsContour (contour_of before a inner b after) → Overlooks v a inner b
    → All (λ w. IsSegmentUnder (contour_of before a (v ∷ []) b after) v w) (stretch a inner b)

-- around a point c of the contour, v comes after the next point x to the right and before the last point y to the left. Within the stretch:
abbrev pub InnerTurns : Type 0
InnerTurns = (c x v y : ℕ × ℕ) → turns_left c x v ≡ true → turns_left y c v ≡ true → TwoTurnLeft c x v y

-- at its left end
abbrev pub LeftEndTurns : Type 0
LeftEndTurns = (c x v y : ℕ × ℕ) → y.0 < c.0 → c.0 < x.0 → c.0 < v.0 → turns_left c x v ≡ true → TwoTurnLeft c x v y

-- at its right end
abbrev pub RightEndTurns : Type 0
RightEndTurns = (c x v y : ℕ × ℕ) → y.0 < c.0 → c.0 < x.0 → v.0 < c.0 → turns_left y c v ≡ true → TwoTurnLeft c x v y

-- at the first point of the contour, where y is the last one, at the same height
abbrev pub FirstTurns : Type 0
FirstTurns = (c x v y : ℕ × ℕ) → y.1 ≡ c.1 → c.0 < y.0 → c.1 < x.1 → turns_left c x v ≡ true → TwoTurnLeft c x v y

-- at the last point, where x is the first one
abbrev pub LastTurns : Type 0
LastTurns = (c x v y : ℕ × ℕ) → x.1 ≡ c.1 → x.0 < c.0 → c.1 < y.1 → turns_left y c v ≡ true → TwoTurnLeft c x v y

-- the directions to x and y differ, one of them coming first: to the two sides of c, and from the first and the last point of the contour
abbrev pub SidesDiffer : Type 0
SidesDiffer = (c x y : ℕ × ℕ) → y.0 < c.0 → c.0 < x.0 → (comes_before c x y ≡ true) ⊎ (comes_before c y x ≡ true)

abbrev pub FirstDiffer : Type 0
FirstDiffer = (c x y : ℕ × ℕ) → y.1 ≡ c.1 → c.0 < y.0 → c.1 < x.1 → comes_before c y x ≡ true

abbrev pub LastDiffer : Type 0
LastDiffer = (c x y : ℕ × ℕ) → x.1 ≡ c.1 → x.0 < c.0 → c.1 < y.1 → comes_before c y x ≡ true
