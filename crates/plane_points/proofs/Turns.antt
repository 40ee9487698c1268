-- Turns: by sums, in cyclic order, and how two turns make a third.
use Rattle.std.proofs.Common.{◌≡◌, ℕ, ◌⊎◌, inl, inr, ◌<◌, ◌≤◌, ◌+◌, ◌*◌, true, false, arith, ap, ◌∙◌}
use Rattle.std.proofs.lemmas.Bool.{cases_lt, ltb-true, lt-ltb, le-ltb}
use Rattle.std.proofs.lemmas.Nat.{mul-le}
use Rattle.std.proofs.Math.Nat.{mul-lt-mul_of_pos_right, lt_of_mul-lt-mul_right}
use Rattle.plane_points.specs.Turning.{turns_left}

-- a turn to the left, by its two sums
abbrev pub Left : ℕ × ℕ → ℕ × ℕ → ℕ × ℕ → Type 0
Left a b c = a.0 * c.1 + b.0 * a.1 + c.0 * b.1 < a.0 * b.1 + b.0 * c.1 + c.0 * a.1

pub left-true : (a b c : ℕ × ℕ) → turns_left a b c ≡ true → Left a b c
left-true a b c h = ltb-true (a.0 * c.1 + b.0 * a.1 + c.0 * b.1) (a.0 * b.1 + b.0 * c.1 + c.0 * a.1) h

pub true-left : (a b c : ℕ × ℕ) → Left a b c → turns_left a b c ≡ true
true-left a b c h = lt-ltb (a.0 * c.1 + b.0 * a.1 + c.0 * b.1) (a.0 * b.1 + b.0 * c.1 + c.0 * a.1) h

pub left-false : (a b c : ℕ × ℕ) → (Left a b c → ⊥) → turns_left a b c ≡ false
left-false a b c h = le-ltb (a.0 * c.1 + b.0 * a.1 + c.0 * b.1) (a.0 * b.1 + b.0 * c.1 + c.0 * a.1) (omega (arith, h))

-- from the next corner of the triangle on
pub left-around : (a b c : ℕ × ℕ) → Left a b c → Left b c a
left-around a b c h = omega (arith, h)

-- not to both sides
pub left-once : (a b c : ℕ × ℕ) → Left a b c → Left a c b → ⊥
left-once a b c h k = omega (arith, h, k)

-- the turn of p and q, that of q and r and that of r and p, each times the height of the third: they add up to nothing. Heights
-- here are differences to the height of c, so each product stands once on either side
pub heights : (c p q r : ℕ × ℕ)
    → (c.0 * r.1 + p.0 * c.1 + r.0 * p.1) * q.1 + ((c.0 * p.1 + p.0 * q.1 + q.0 * c.1) * r.1 + (c.0 * q.1 + q.0 * r.1 + r.0 * c.1) * p.1)
    + ((c.0 * p.1 + p.0 * r.1 + r.0 * c.1) * c.1 + ((c.0 * q.1 + p.0 * c.1 + q.0 * p.1) * c.1 + (c.0 * r.1 + q.0 * c.1 + r.0 * q.1) * c.1))
    ≡ (c.0 * p.1 + p.0 * r.1 + r.0 * c.1) * q.1 + ((c.0 * q.1 + p.0 * c.1 + q.0 * p.1) * r.1 + (c.0 * r.1 + q.0 * c.1 + r.0 * q.1) * p.1)
    + ((c.0 * r.1 + p.0 * c.1 + r.0 * p.1) * c.1 + ((c.0 * p.1 + p.0 * q.1 + q.0 * c.1) * c.1 + (c.0 * q.1 + q.0 * r.1 + r.0 * c.1) * c.1))
heights c p q r = omega arith

-- the same for widths
pub widths : (c p q r : ℕ × ℕ)
    → (c.0 * r.1 + p.0 * c.1 + r.0 * p.1) * q.0 + ((c.0 * p.1 + p.0 * q.1 + q.0 * c.1) * r.0 + (c.0 * q.1 + q.0 * r.1 + r.0 * c.1) * p.0)
    + ((c.0 * p.1 + p.0 * r.1 + r.0 * c.1) * c.0 + ((c.0 * q.1 + p.0 * c.1 + q.0 * p.1) * c.0 + (c.0 * r.1 + q.0 * c.1 + r.0 * q.1) * c.0))
    ≡ (c.0 * p.1 + p.0 * r.1 + r.0 * c.1) * q.0 + ((c.0 * q.1 + p.0 * c.1 + q.0 * p.1) * r.0 + (c.0 * r.1 + q.0 * c.1 + r.0 * q.1) * p.0)
    + ((c.0 * r.1 + p.0 * c.1 + r.0 * p.1) * c.0 + ((c.0 * p.1 + p.0 * q.1 + q.0 * c.1) * c.0 + (c.0 * q.1 + q.0 * r.1 + r.0 * c.1) * c.0))
widths c p q r = omega arith

-- a number times a sum
pub spread : (k x y z : ℕ) → x ≡ y + z → k * x ≡ k * y + k * z
spread k x y z e = ap (λ (n : ℕ). k * n) e ∙ omega arith

-- what adds up: A to F are the sums of three turns, p, q, r and t heights
abbrev pub AddUp : (A B C D E F p q r t : ℕ) → Type 0
AddUp A B C D E F p q r t = E * q + (B * r + D * p) + (F * t + (A * t + C * t)) ≡ F * q + (A * r + C * p) + (E * t + (B * t + D * t))

-- all three on one side of t, above or below: from two turns the third
pub one-side : (A B C D E F p q r t u v w : ℕ) → AddUp A B C D E F p q r t
    → ((p ≡ t + u) × (q ≡ t + v) × (r ≡ t + w)) ⊎ ((t ≡ p + u) × (t ≡ q + v) × (t ≡ r + w)) → A < B → C < D → 0 < v → 0 < w → E < F
one-side A B C D E F p q r t u v w e s h k i j = lt_of_mul-lt-mul_right v (weighed s)
  where
    first : A * w < B * w
    first = mul-lt-mul_of_pos_right h j

    second : C * u ≤ D * u
    second = mul-le C u D u (omega (arith, k)) (omega arith)

    weighed : ((p ≡ t + u) × (q ≡ t + v) × (r ≡ t + w)) ⊎ ((t ≡ p + u) × (t ≡ q + v) × (t ≡ r + w)) → E * v < F * v
    weighed (inl y) = omega (arith, e, first, second, spread E q t v y.1, spread F q t v y.1, spread B r t w y.2, spread A r t w y.2, spread D p t u y.0, spread C p t u y.0)
    weighed (inr y) = omega (arith, e, first, second, spread E t q v y.1, spread F t q v y.1, spread B t r w y.2, spread A t r w y.2, spread D t p u y.0, spread C t p u y.0)

-- p and r on one side of t and q on the other, or on the height of t: the third turn is to the other side
pub other-side : (A B C D E F p q r t u v w : ℕ) → AddUp A B C D E F p q r t
    → ((p ≡ t + u) × (t ≡ q + v) × (r ≡ t + w)) ⊎ ((t ≡ p + u) × (q ≡ t + v) × (t ≡ r + w)) → A < B → C < D → 0 < u + w → (0 < v) × (F < E)
other-side A B C D E F p q r t u v w e s h k i = (positive, lt_of_mul-lt-mul_right v (weighed s))
  where
    more : (x y k : ℕ) → x < y → x * k + k ≤ y * k
    more x y k h = omega (arith, mul-le (x + 1) k y k (omega (arith, h)) (omega arith))

    first : A * w + w ≤ B * w
    first = more A B w h

    second : C * u + u ≤ D * u
    second = more C D u k

    weighed : ((p ≡ t + u) × (t ≡ q + v) × (r ≡ t + w)) ⊎ ((t ≡ p + u) × (q ≡ t + v) × (t ≡ r + w)) → F * v < E * v
    weighed (inl y) = omega (arith, e, first, second, i, spread E t q v y.1, spread F t q v y.1, spread B r t w y.2, spread A r t w y.2, spread D p t u y.0, spread C p t u y.0)
    weighed (inr y) = omega (arith, e, first, second, i, spread E q t v y.1, spread F q t v y.1, spread B t r w y.2, spread A t r w y.2, spread D t p u y.0, spread C t p u y.0)

    positive : 0 < v
    positive = elim (cases_lt 0 v) [ inl l ↦ l | inr z ↦ absurd (omega (arith, weighed s, mul-le v F 0 F z (omega arith), mul-le v E 0 E z (omega arith))) ]
