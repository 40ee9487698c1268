-- Turns and directions around a point. A point is a pair of its coordinates, x to the right and y upwards.
use Rattle.std.specs.Prelude.{◌≡◌, ℕ, ◌+◌, ◌*◌, Bool, true, not, ◌&&◌, ◌||◌, ◌==◌, cond, nat_lt, List, [], ◌∷◌, AllPairs}
use Rattle.permutations.specs.Cyclic.{IsTurn}

-- c lies to the left of the way from a to b: the two sums differ by twice the area of the triangle
abbrev pub turns_left : ℕ × ℕ → ℕ × ℕ → ℕ × ℕ → Bool
turns_left a b c = nat_lt (a.0 * c.1 + b.0 * a.1 + c.0 * b.1) (a.0 * b.1 + b.0 * c.1 + c.0 * a.1)

-- seen from c, p is above, or at the same height to the right
abbrev pub is_upper : ℕ × ℕ → ℕ × ℕ → Bool
is_upper c p = nat_lt c.1 p.1 || ((c.1 == p.1) && nat_lt c.0 p.0)

-- seen from c, p comes before q counterclockwise, from the direction to the right on
abbrev pub comes_before : ℕ × ℕ → ℕ × ℕ → ℕ × ℕ → Bool
comes_before c p q = cond (is_upper c p) (not (is_upper c q) || turns_left c p q) (not (is_upper c q) && turns_left c p q)

-- seen from c, the points are met in the order of the list counterclockwise, once around
pub record IsCounterclockwise (c : ℕ × ℕ) (points : List (ℕ × ℕ)) : Type 0 where
  pub turned : List (ℕ × ℕ)
  pub turn : IsTurn points turned
  pub rises : AllPairs (λ p q. comes_before c p q ≡ true) turned

-- how many members of the list do not come before the next one, going once around
abbrev pub falls_from : ℕ × ℕ → ℕ × ℕ → ℕ × ℕ → List (ℕ × ℕ) → ℕ
falls_from c first p [] = cond (comes_before c p first) 0 1
falls_from c first p (q ∷ l) = cond (comes_before c p q) 0 1 + falls_from c first q l

abbrev pub falls_around : ℕ × ℕ → List (ℕ × ℕ) → ℕ
falls_around c [] = 0
falls_around c (p ∷ l) = falls_from c p p l
