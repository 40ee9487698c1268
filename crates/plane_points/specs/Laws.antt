-- What is proved of directions, counterclockwise lists and segments, as statements.
use Rattle.std.specs.Prelude.{◌≡◌, ◌≢◌, ℕ, ◌+◌, ◌<◌, ◌≤◌, ◌↔◌, ◌⊎◌, Bool, true, false, List, [], ◌∷◌, ◌++◌, map, filter}
use Rattle.plane_points.specs.Turning.{turns_left, comes_before, IsCounterclockwise, falls_around}
use Rattle.plane_points.specs.Segments.{weighted, times, DoMeet, are_apart, is_on, same_way}

-- the order of directions around a point is transitive, and never both ways
abbrev pub DirectionsAreOrdered : Type 0
DirectionsAreOrdered = (c p q r : ℕ × ℕ) → (comes_before c p q ≡ true → comes_before c q r ≡ true → comes_before c p r ≡ true) × (comes_before c p q ≡ true → comes_before c q p ≡ false)

-- a list goes counterclockwise around a point exactly where at most one member does not come before the next one
abbrev pub FallsTell : Type 0
FallsTell = (c : ℕ × ℕ) (l : List (ℕ × ℕ)) → (falls_around c l ≤ 1) ↔ IsCounterclockwise c l

-- a part of a counterclockwise list is counterclockwise
abbrev pub PartsGoAround : Type 0
PartsGoAround = (c : ℕ × ℕ) (place : ℕ → ℕ × ℕ) (keep : ℕ → Bool) (l : List ℕ) → IsCounterclockwise c (map place l) → IsCounterclockwise c (map place (filter keep l))

-- one more after the last member x of a counterclockwise list, y being the first one, where x, b, y or b, y, x are two turns to the left
abbrev pub OneMoreGoesAround : Type 0
OneMoreGoesAround = (c b x y : ℕ × ℕ) (k m : List (ℕ × ℕ)) → k ++ x ∷ [] ≡ y ∷ m → IsCounterclockwise c (y ∷ m) → (comes_before c x y ≡ true) ⊎ (comes_before c y x ≡ true)
    → ((turns_left c x b ≡ true) × (turns_left c b y ≡ true)) ⊎ (((turns_left c b y ≡ true) × (turns_left c y x ≡ true)) ⊎ ((turns_left c y x ≡ true) × (turns_left c x b ≡ true))) → IsCounterclockwise c ((y ∷ m) ++ b ∷ [])

-- two segments have a point in common exactly where they are not apart
abbrev pub SegmentsMeet : Type 0
SegmentsMeet = (a b c d : ℕ × ℕ) → (are_apart a b c d ≡ true → DoMeet a b c d → ⊥) × (are_apart a b c d ≡ false → DoMeet a b c d)

-- a point is on a segment exactly where it is a point of it
abbrev pub PointsOfSegments : Type 0
PointsOfSegments = (a b p : ℕ × ℕ) → (is_on a b p ≡ true) ↔ ((s : ℕ) × (t : ℕ) × (0 < s + t) × (weighted s a t b ≡ times (s + t) p))

-- two segments from one point have no other point in common, unless they lie in one direction
abbrev pub RaysAreApart : Type 0
RaysAreApart = (z p q : ℕ × ℕ) → same_way z p q ≡ false → (s t u w : ℕ) → s + t ≡ u + w → weighted s z t p ≡ weighted u z w q → weighted s z t p ≡ times (s + t) z

-- and then they have
abbrev pub RaysMeet : Type 0
RaysMeet = (z p q : ℕ × ℕ) → z ≢ p → z ≢ q → same_way z p q ≡ true
    → (s : ℕ) × (t : ℕ) × (u : ℕ) × (w : ℕ) × (0 < s + t) × (s + t ≡ u + w) × (weighted s z t p ≡ weighted u z w q) × (weighted s z t p ≢ times (s + t) z)
