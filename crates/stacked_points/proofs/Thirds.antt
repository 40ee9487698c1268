-- From two turns around a point the third, by widths, where all points are on one side of it.
use Rattle.std.proofs.Common.{◌≡◌, ℕ, ◌⊎◌, inl, inr, ◌<◌, ◌≤◌, ◌+◌, ◌*◌, ◌-◌, arith, ap}
use Rattle.std.proofs.lemmas.Bool.{cases_lt}
use Rattle.std.proofs.lemmas.Nat.{mul-le}
use Rattle.std.proofs.Math.Nat.{mul-lt-mul_of_pos_left, lt_of_mul-lt-mul_right}
use Rattle.plane_points.proofs.Turns.{Left, left-around, widths, spread, AddUp}
use Rattle.plane_points.proofs.Segments.{low, high}

-- two turns, at least one of which counts
third : (A B C D E F p q r t u v w : ℕ) → AddUp A B C D E F p q r t → ((p ≡ t + u) × (q ≡ t + v) × (r ≡ t + w)) ⊎ ((t ≡ p + u) × (t ≡ q + v) × (t ≡ r + w))
    → A ≤ B → C ≤ D → ((A < B) × (0 < w)) ⊎ ((C < D) × (0 < u)) → E < F
third A B C D E F p q r t u v w e s h k i = lt_of_mul-lt-mul_right v (strict i)
  where
    more : (x y k : ℕ) → x < y → x * k + k ≤ y * k
    more x y k h = omega (arith, mul-le (x + 1) k y k (omega (arith, h)) (omega arith))

    weighed : (m n : ℕ) → 0 < m + n → A * w + m ≤ B * w → C * u + n ≤ D * u
        → ((p ≡ t + u) × (q ≡ t + v) × (r ≡ t + w)) ⊎ ((t ≡ p + u) × (t ≡ q + v) × (t ≡ r + w)) → E * v < F * v
    weighed m n o first second (inl y) = omega (arith, e, o, first, second, spread E q t v y.1, spread F q t v y.1, spread B r t w y.2, spread A r t w y.2, spread D p t u y.0, spread C p t u y.0)
    weighed m n o first second (inr y) = omega (arith, e, o, first, second, spread E t q v y.1, spread F t q v y.1, spread B t r w y.2, spread A t r w y.2, spread D t p u y.0, spread C t p u y.0)

    strict : ((A < B) × (0 < w)) ⊎ ((C < D) × (0 < u)) → E * v < F * v
    strict (inl y) = weighed w 0 (omega (arith, y.1)) (more A B w y.0) (omega (arith, mul-le C u D u k (omega arith))) s
    strict (inr y) = weighed 0 u (omega (arith, y.1)) (omega (arith, mul-le A w B w h (omega arith))) (more C D u y.0) s

-- all to the right of c
pub right-third : (c p q r : ℕ × ℕ) → c.0 ≤ p.0 → c.0 ≤ q.0 → c.0 ≤ r.0 → low c p q ≤ high c p q → low c q r ≤ high c q r → (Left c p q × (c.0 < r.0)) ⊎ (Left c q r × (c.0 < p.0)) → Left c p r
right-third c p q r i j k m n s = third (low c p q) (high c p q) (low c q r) (high c q r) (low c p r) (high c p r) p.0 q.0 r.0 c.0 (p.0 - c.0) (q.0 - c.0) (r.0 - c.0)
    (widths c p q r) (inl (omega (arith, i), omega (arith, j), omega (arith, k))) m n (strict s)
  where
    strict : (Left c p q × (c.0 < r.0)) ⊎ (Left c q r × (c.0 < p.0)) → ((low c p q < high c p q) × (0 < r.0 - c.0)) ⊎ ((low c q r < high c q r) × (0 < p.0 - c.0))
    strict (inl y) = inl (y.0, omega (arith, y.1))
    strict (inr y) = inr (y.0, omega (arith, y.1))

-- all to the left of c
pub left-third : (c p q r : ℕ × ℕ) → p.0 ≤ c.0 → q.0 ≤ c.0 → r.0 ≤ c.0 → low c p q ≤ high c p q → low c q r ≤ high c q r → (Left c p q × (r.0 < c.0)) ⊎ (Left c q r × (p.0 < c.0)) → Left c p r
left-third c p q r i j k m n s = third (low c p q) (high c p q) (low c q r) (high c q r) (low c p r) (high c p r) p.0 q.0 r.0 c.0 (c.0 - p.0) (c.0 - q.0) (c.0 - r.0)
    (widths c p q r) (inr (omega (arith, i), omega (arith, j), omega (arith, k))) m n (strict s)
  where
    strict : (Left c p q × (r.0 < c.0)) ⊎ (Left c q r × (p.0 < c.0)) → ((low c p q < high c p q) × (0 < c.0 - r.0)) ⊎ ((low c q r < high c q r) × (0 < c.0 - p.0))
    strict (inl y) = inl (y.0, omega (arith, y.1))
    strict (inr y) = inr (y.0, omega (arith, y.1))

-- over an edge whose left end is seen together with q
pub near-right : (v a b q : ℕ × ℕ) → a.0 < b.0 → a.0 < v.0 → a.0 ≤ q.0 → Left a b v → Left a v q → Left a b q
near-right v a b q h i j k l = right-third a b v q (omega (arith, h)) (omega (arith, i)) j (omega (arith, k)) (omega (arith, l)) (inr (l, h))

pub near-left : (v a b q : ℕ × ℕ) → a.0 < b.0 → v.0 < b.0 → q.0 ≤ b.0 → Left a b v → Left v b q → Left a b q
near-left v a b q h i j k l = left-around q a b (left-around b q a (left-third b q v a j (omega (arith, i)) (omega (arith, h)) (omega (arith, l)) (omega (arith, k)) (inl (left-around v b q l, h))))

-- raising a point
pub raise : (a b v q : ℕ × ℕ) → a.0 ≤ b.0 → q.0 ≡ v.0 → v.1 ≤ q.1 → Left a b v → Left a b q
raise a b v q h e i k = let d : b.0 ≡ a.0 + (b.0 - a.0) = omega (arith, h) in
    omega (arith, k, ap (λ (n : ℕ). n * b.1) e, ap (λ (n : ℕ). n * a.1) e, ap (λ (n : ℕ). n * v.1) d, ap (λ (n : ℕ). n * q.1) d, mul-le (b.0 - a.0) v.1 (b.0 - a.0) q.1 (omega arith) i)

-- what is at the width of v, and not to the right of a way to v or from it, is not below v
above-first : (w v q : ℕ × ℕ) → w.0 < v.0 → q.0 ≡ v.0 → low w v q ≤ high w v q → v.1 ≤ q.1
above-first w v q h e k = elim (cases_lt q.1 v.1) [
  | inl l ↦ let d : v.0 ≡ w.0 + (v.0 - w.0) = omega (arith, h) in
      absurd (omega (arith, k, ap (λ (n : ℕ). n * v.1) e, ap (λ (n : ℕ). n * w.1) e, ap (λ (n : ℕ). n * v.1) d, ap (λ (n : ℕ). n * q.1) d, mul-lt-mul_of_pos_left {m = q.1} {n = v.1} {k = v.0 - w.0} l (omega (arith, h))))
  | inr l ↦ l
]

above-second : (v w q : ℕ × ℕ) → v.0 < w.0 → q.0 ≡ v.0 → low v w q ≤ high v w q → v.1 ≤ q.1
above-second v w q h e k = elim (cases_lt q.1 v.1) [
  | inl l ↦ let d : w.0 ≡ v.0 + (w.0 - v.0) = omega (arith, h) in
      absurd (omega (arith, k, ap (λ (n : ℕ). n * v.1) e, ap (λ (n : ℕ). n * w.1) e, ap (λ (n : ℕ). n * v.1) d, ap (λ (n : ℕ). n * q.1) d, mul-lt-mul_of_pos_left {m = q.1} {n = v.1} {k = w.0 - v.0} l (omega (arith, h))))
  | inr l ↦ l
]

-- over an edge to the right of w: q is over the way from w to v, or on it
pub far-right : (w v a b q : ℕ × ℕ) → w.0 < a.0 → a.0 < b.0 → Left v w a → Left a b v → low w v q ≤ high w v q → a.0 ≤ q.0 → q.0 ≤ v.0 → Left a b q
far-right w v a b q h i k l m n o = elim (cases_lt q.0 v.0) [
  | inl x ↦ near-right v a b q i (omega (arith, n, x)) n l (left-around q a v (left-around v q a (left-third v q w a o (omega (arith, h, n, o)) (omega (arith, n, o)) (omega (arith, m)) (omega (arith, k)) (inr (k, x)))))
  | inr x ↦ let e : q.0 ≡ v.0 = omega (arith, x, o) in raise a b v q (omega (arith, i)) e (above-first w v q (omega (arith, h, n, o)) e m) l
]

-- over an edge to the left of w
pub far-left : (w v a b q : ℕ × ℕ) → b.0 < w.0 → a.0 < b.0 → Left v b w → Left a b v → low v w q ≤ high v w q → v.0 ≤ q.0 → q.0 ≤ b.0 → Left a b q
far-left w v a b q h i k l m n o = elim (cases_lt v.0 q.0) [
  | inl x ↦ near-left v a b q i (omega (arith, x, o)) o l (right-third v b w q (omega (arith, n, o)) (omega (arith, h, n, o)) n (omega (arith, k)) m (inl (k, x)))
  | inr x ↦ let e : q.0 ≡ v.0 = omega (arith, x, n) in raise a b v q (omega (arith, i)) e (above-second v w q (omega (arith, h, n, o)) e m) l
]
