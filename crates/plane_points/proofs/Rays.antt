-- A point on a segment, and segments from one point.
use Rattle.std.proofs.Common.{◌≡◌, ℕ, ◌⊎◌, inl, inr, ◌<◌, ◌≤◌, ◌+◌, ◌*◌, ◌-◌, true, false, not, ◌&&◌, nat_lt, arith, ap, refl, sym, ◌∙◌, ap₂}
use Rattle.std.proofs.lemmas.Bool.{cases_lt, cases_order, cases_eq, cases_Bool, and_parts, and_from, or_parts, or_cases, not-true, not_from_false, ltb-true, ltb-false, lt-ltb, false≢true}
use Rattle.std.proofs.lemmas.Nat.{mul-le}
use Rattle.std.proofs.Math.Nat.{mul-lt-mul_of_pos_left}
use Rattle.plane_points.specs.Turning.{turns_left}
use Rattle.plane_points.specs.Segments.{weighted, times, in_line, in_range, is_on, on_two_sides, same_way}
use Rattle.plane_points.proofs.Turns.{left-false}
use Rattle.plane_points.proofs.Segments.{low, high, balanced, Between, between}

-- in a line: the two sums are equal
pub line-equal : (a b p : ℕ × ℕ) → in_line a b p ≡ true → low a b p ≡ high a b p
line-equal a b p h = let q = and_parts (not (turns_left a b p)) (not (turns_left b a p)) h in
    let k : high a b p ≤ low a b p = ltb-false (low a b p) (high a b p) (not-true (turns_left a b p) q.0) in
    let m : high b a p ≤ low b a p = ltb-false (low b a p) (high b a p) (not-true (turns_left b a p) q.1) in omega (arith, k, m)

pub equal-line : (a b p : ℕ × ℕ) → low a b p ≡ high a b p → in_line a b p ≡ true
equal-line a b p e = and_from (not (turns_left a b p)) (not (turns_left b a p)) (not_from_false (turns_left a b p) (left-false a b p (λ l. omega (arith, e, l)))) (not_from_false (turns_left b a p) (left-false b a p (λ l. omega (arith, e, l))))

range-parts : (a b p : ℕ) → in_range a b p ≡ true → (p < a → p < b → ⊥) × (a < p → b < p → ⊥)
range-parts a b p h = let q = and_parts (not (nat_lt p a && nat_lt p b)) (not (nat_lt a p && nat_lt b p)) h in (
  (λ x y. false≢true (sym (not-true (nat_lt p a && nat_lt p b) q.0) ∙ and_from (nat_lt p a) (nat_lt p b) (lt-ltb p a x) (lt-ltb p b y))),
  (λ x y. false≢true (sym (not-true (nat_lt a p && nat_lt b p) q.1) ∙ and_from (nat_lt a p) (nat_lt b p) (lt-ltb a p x) (lt-ltb b p y))),
)

parts-range : (a b p : ℕ) → (p < a → p < b → ⊥) → (a < p → b < p → ⊥) → in_range a b p ≡ true
parts-range a b p f g = and_from (not (nat_lt p a && nat_lt p b)) (not (nat_lt a p && nat_lt b p)) (none p a p b f) (none a p b p g)
  where
    none : (x y z w : ℕ) → (x < y → z < w → ⊥) → not (nat_lt x y && nat_lt z w) ≡ true
    none x y z w f = elim (cases_Bool (nat_lt x y && nat_lt z w)) [
      | inl h ↦ let q = and_parts (nat_lt x y) (nat_lt z w) h in absurd (f (ltb-true x y q.0) (ltb-true z w q.1))
      | inr h ↦ rw h
    ]

-- a point with weights is in the range
weighted-range : (a b p s t : ℕ) → 0 < s + t → s * a + t * b ≡ (s + t) * p → in_range a b p ≡ true
weighted-range a b p s t n e = parts-range a b p (λ x y. omega (arith, n, e, above a b x y)) (λ x y. omega (arith, n, e, below a b x y))
  where
    above : (a b : ℕ) → p < a → p < b → s * p + s + (t * p + t) ≤ s * a + t * b
    above a b x y = omega (arith, mul-le s (p + 1) s a (omega arith) (omega (arith, x)), mul-le t (p + 1) t b (omega arith) (omega (arith, y)))

    below : (a b : ℕ) → a < p → b < p → s * a + s + (t * b + t) ≤ s * p + t * p
    below a b x y = omega (arith, mul-le s (a + 1) s p (omega arith) (omega (arith, x)), mul-le t (b + 1) t p (omega arith) (omega (arith, y)))

times-equal : (k x y : ℕ) → 0 < k → k * x ≡ k * y → x ≡ y
times-equal k x y n e = elim (cases_order x y) [
  | inl s ↦ s
  | inr (inl l) ↦ absurd (omega (arith, e, mul-lt-mul_of_pos_left {m = x} {n = y} {k = k} l n))
  | inr (inr l) ↦ absurd (omega (arith, e, mul-lt-mul_of_pos_left {m = y} {n = x} {k = k} l n))
]

-- a point with weights is on the segment
pub weighted-on : (a b p : ℕ × ℕ) (s t : ℕ) → 0 < s + t → weighted s a t b ≡ times (s + t) p → is_on a b p ≡ true
weighted-on a b p s t n e = and_from (in_line a b p) (in_range a.0 b.0 p.0 && in_range a.1 b.1 p.1) (equal-line a b p sums) (and_from (in_range a.0 b.0 p.0) (in_range a.1 b.1 p.1) (weighted-range a.0 b.0 p.0 s t n x) (weighted-range a.1 b.1 p.1 s t n y))
  where
    x : s * a.0 + t * b.0 ≡ (s + t) * p.0
    x = ap (λ (z : ℕ × ℕ). z.0) e

    y : s * a.1 + t * b.1 ≡ (s + t) * p.1
    y = ap (λ (z : ℕ × ℕ). z.1) e

    sums : low a b p ≡ high a b p
    sums = times-equal (s + t) (low a b p) (high a b p) n (omega (arith, balanced a b p p s t s t refl (omega (arith, x)) (omega (arith, y))))

-- a point on the segment has weights
pub on-weighted : (a b p : ℕ × ℕ) → is_on a b p ≡ true → (s : ℕ) × (t : ℕ) × (0 < s + t) × (weighted s a t b ≡ times (s + t) p)
on-weighted a b p h = by-width (cases_order a.0 b.0) (cases_order a.1 b.1)
  where
    first : (in_line a b p ≡ true) × ((in_range a.0 b.0 p.0 && in_range a.1 b.1 p.1) ≡ true)
    first = and_parts (in_line a b p) (in_range a.0 b.0 p.0 && in_range a.1 b.1 p.1) h

    sums : low a b p ≡ high a b p
    sums = line-equal a b p first.0

    ranges : (in_range a.0 b.0 p.0 ≡ true) × (in_range a.1 b.1 p.1 ≡ true)
    ranges = and_parts (in_range a.0 b.0 p.0) (in_range a.1 b.1 p.1) first.1

    across : (p.0 < a.0 → p.0 < b.0 → ⊥) × (a.0 < p.0 → b.0 < p.0 → ⊥)
    across = range-parts a.0 b.0 p.0 ranges.0

    up : (p.1 < a.1 → p.1 < b.1 → ⊥) × (a.1 < p.1 → b.1 < p.1 → ⊥)
    up = range-parts a.1 b.1 p.1 ranges.1

    least : (x y z : ℕ) → x < y → (z < x → z < y → ⊥) → x ≤ z
    least x y z l f = elim (cases_lt z x) [ inl k ↦ absurd (f k (omega (arith, k, l))) | inr k ↦ k ]

    most : (x y z : ℕ) → x < y → (x < z → y < z → ⊥) → z ≤ y
    most x y z l f = elim (cases_lt y z) [ inl k ↦ absurd (f (omega (arith, k, l)) k) | inr k ↦ k ]

    pair : (s t : ℕ) → s * a.0 + t * b.0 ≡ (s + t) * p.0 → s * a.1 + t * b.1 ≡ (s + t) * p.1 → weighted s a t b ≡ times (s + t) p
    pair s t x y = ap₂ (λ (u v : ℕ). (u, v)) x y

    from : Between a.0 b.0 p.0 a.1 b.1 p.1 → (s : ℕ) × (t : ℕ) × (0 < s + t) × (weighted s a t b ≡ times (s + t) p)
    from (s, t, n, x, y) = (s, t, n, pair s t x y)

    back : Between b.0 a.0 p.0 b.1 a.1 p.1 → (s : ℕ) × (t : ℕ) × (0 < s + t) × (weighted s a t b ≡ times (s + t) p)
    back (s, t, n, x, y) = (t, s, omega (arith, n), pair t s (omega (arith, x)) (omega (arith, y)))

    tall : Between a.1 b.1 p.1 a.0 b.0 p.0 → (s : ℕ) × (t : ℕ) × (0 < s + t) × (weighted s a t b ≡ times (s + t) p)
    tall (s, t, n, x, y) = (s, t, n, pair s t y x)

    down : Between b.1 a.1 p.1 b.0 a.0 p.0 → (s : ℕ) × (t : ℕ) × (0 < s + t) × (weighted s a t b ≡ times (s + t) p)
    down (s, t, n, x, y) = (t, s, omega (arith, n), pair t s (omega (arith, y)) (omega (arith, x)))

    by-height : (a.0 ≡ b.0) → (a.1 ≡ b.1) ⊎ ((a.1 < b.1) ⊎ (b.1 < a.1)) → (s : ℕ) × (t : ℕ) × (0 < s + t) × (weighted s a t b ≡ times (s + t) p)
    by-height e (inr (inl l)) = tall (between a.1 b.1 p.1 a.0 b.0 p.0 (least a.1 b.1 p.1 l up.0) (most a.1 b.1 p.1 l up.1) l (omega (arith, sums)))
    by-height e (inr (inr l)) = down (between b.1 a.1 p.1 b.0 a.0 p.0 (least b.1 a.1 p.1 l (λ x y. up.0 y x)) (most b.1 a.1 p.1 l (λ x y. up.1 y x)) l (omega (arith, sums)))
    by-height e (inl f) = (1, 0, omega arith, pair 1 0 (omega (arith, same a.0 b.0 p.0 e across)) (omega (arith, same a.1 b.1 p.1 f up)))
      where
        same : (x y z : ℕ) → x ≡ y → (z < x → z < y → ⊥) × (x < z → y < z → ⊥) → x ≡ z
        same x y z e g = elim (cases_order x z) [
          | inl s ↦ s
          | inr (inl l) ↦ absurd (g.1 l (omega (arith, e, l)))
          | inr (inr l) ↦ absurd (g.0 l (omega (arith, e, l)))
        ]

    by-width : (a.0 ≡ b.0) ⊎ ((a.0 < b.0) ⊎ (b.0 < a.0)) → (a.1 ≡ b.1) ⊎ ((a.1 < b.1) ⊎ (b.1 < a.1)) → (s : ℕ) × (t : ℕ) × (0 < s + t) × (weighted s a t b ≡ times (s + t) p)
    by-width (inr (inl l)) m = from (between a.0 b.0 p.0 a.1 b.1 p.1 (least a.0 b.0 p.0 l across.0) (most a.0 b.0 p.0 l across.1) l (omega (arith, sums)))
    by-width (inr (inr l)) m = back (between b.0 a.0 p.0 b.1 a.1 p.1 (least b.0 a.0 p.0 l (λ x y. across.0 y x)) (most b.0 a.0 p.0 l (λ x y. across.1 y x)) l (omega (arith, sums)))
    by-width (inl e) m = by-height e m

two-parts : (z p q : ℕ) → on_two_sides z p q ≡ false → (p < z → z < q → ⊥) × (q < z → z < p → ⊥)
two-parts z p q h = let m = or_parts (nat_lt p z && nat_lt z q) (nat_lt q z && nat_lt z p) h in (
  (λ x y. false≢true (sym m.0 ∙ and_from (nat_lt p z) (nat_lt z q) (lt-ltb p z x) (lt-ltb z q y))),
  (λ x y. false≢true (sym m.1 ∙ and_from (nat_lt q z) (nat_lt z p) (lt-ltb q z x) (lt-ltb z p y))),
)

parts-two : (z p q : ℕ) → (p < z → z < q → ⊥) → (q < z → z < p → ⊥) → on_two_sides z p q ≡ false
parts-two z p q f g = elim (cases_Bool (on_two_sides z p q)) [
  | inl h ↦ absurd (elim (or_cases (nat_lt p z && nat_lt z q) (nat_lt q z && nat_lt z p) h) [
    | inl k ↦ let m = and_parts (nat_lt p z) (nat_lt z q) k in f (ltb-true p z m.0) (ltb-true z q m.1)
    | inr k ↦ let m = and_parts (nat_lt q z) (nat_lt z p) k in g (ltb-true q z m.0) (ltb-true z p m.1)
  ])
  | inr h ↦ h
]

-- the point of two segments from z is z, where they do not lie in one direction
pub rays-apart : (z p q : ℕ × ℕ) (s t u w : ℕ) → s + t ≡ u + w → weighted s z t p ≡ weighted u z w q → same_way z p q ≡ false → weighted s z t p ≡ times (s + t) z
rays-apart z p q s t u w e m h = go (cases_order 0 t) (cases_order 0 w)
  where
    x : s * z.0 + t * p.0 ≡ u * z.0 + w * q.0
    x = ap (λ (v : ℕ × ℕ). v.0) m

    y : s * z.1 + t * p.1 ≡ u * z.1 + w * q.1
    y = ap (λ (v : ℕ × ℕ). v.1) m

    same : 0 < t → 0 < w → same_way z p q ≡ true
    same n k = and_from (in_line z p q) (not (on_two_sides z.0 p.0 q.0) && not (on_two_sides z.1 p.1 q.1)) (equal-line z p q line)
        (and_from (not (on_two_sides z.0 p.0 q.0)) (not (on_two_sides z.1 p.1 q.1)) (not_from_false (on_two_sides z.0 p.0 q.0) (sides z.0 p.0 q.0 x)) (not_from_false (on_two_sides z.1 p.1 q.1) (sides z.1 p.1 q.1 y)))
      where
        line : low z p q ≡ high z p q
        line = times-equal w (low z p q) (high z p q) k (omega (arith, ap (λ (n : ℕ). n * z.1) x, ap (λ (n : ℕ). n * p.1) x, ap (λ (n : ℕ). n * z.0) y, ap (λ (n : ℕ). n * p.0) y, ap (λ (n : ℕ). n * (z.0 * p.1)) e, ap (λ (n : ℕ). n * (z.1 * p.0)) e, ap (λ (n : ℕ). n * (z.0 * z.1)) e))

        sides : (a b c : ℕ) → s * a + t * b ≡ u * a + w * c → on_two_sides a b c ≡ false
        sides a b c v = parts-two a b c
            (λ f g. omega (arith, v, ap (λ (n : ℕ). n * a) e, mul-le t (b + 1) t a (omega arith) (omega (arith, f)), mul-le w (a + 1) w c (omega arith) (omega (arith, g)), n, k))
            (λ f g. omega (arith, v, ap (λ (n : ℕ). n * a) e, mul-le w (c + 1) w a (omega arith) (omega (arith, f)), mul-le t (a + 1) t b (omega arith) (omega (arith, g)), n, k))

    go : (0 ≡ t) ⊎ ((0 < t) ⊎ (t < 0)) → (0 ≡ w) ⊎ ((0 < w) ⊎ (w < 0)) → weighted s z t p ≡ times (s + t) z
    go (inl n) k = ap₂ (λ (a b : ℕ). (a, b)) (omega (arith, ap (λ (j : ℕ). j * p.0) n, ap (λ (j : ℕ). j * z.0) n)) (omega (arith, ap (λ (j : ℕ). j * p.1) n, ap (λ (j : ℕ). j * z.1) n))
    go (inr n) (inl k) = ap₂ (λ (a b : ℕ). (a, b)) (omega (arith, x, ap (λ (j : ℕ). j * z.0) e, ap (λ (j : ℕ). j * q.0) k, ap (λ (j : ℕ). j * z.0) k)) (omega (arith, y, ap (λ (j : ℕ). j * z.1) e, ap (λ (j : ℕ). j * q.1) k, ap (λ (j : ℕ). j * z.1) k))
    go (inr (inl n)) (inr (inl k)) = absurd (false≢true (sym h ∙ same n k))
    go (inr (inr n)) k = absurd (omega (arith, n))
    go (inr (inl n)) (inr (inr k)) = absurd (omega (arith, k))

-- two segments from z in one direction have another point in common, by one coordinate in which they are not constant
abbrev Second : (a b c A B C : ℕ) → Type 0
Second a b c A B C = (s : ℕ) × (t : ℕ) × (u : ℕ) × (w : ℕ) × (0 < s + t) × (s + t ≡ u + w) × (s * a + t * b ≡ u * a + w * c) × (s * A + t * B ≡ u * A + w * C) × (s * a + t * b ≡ (s + t) * a → ⊥)

second : (a b c A B C : ℕ) → (a ≡ b → ⊥) → a * C + b * A + c * B ≡ a * B + b * C + c * A → (b < a → a < c → ⊥) × (c < a → a < b → ⊥) → (a ≡ c → A ≡ C → ⊥) → Second a b c A B C
second a b c A B C n e f g = go (cases_order a b) (cases_order a c)
  where
    none : a ≡ c → ⊥
    none k = g k (elim (cases_order a b) [
      | inl m ↦ absurd (n m)
      | inr (inl m) ↦ times-equal (b - a) A C (omega (arith, m)) (line b a (omega (arith, m)) (flat k))
      | inr (inr m) ↦ times-equal (a - b) A C (omega (arith, m)) (line a b (omega (arith, m)) (sym (flat k) ∙ omega arith))
    ])
      where
        flat : a ≡ c → b * A + a * C ≡ a * A + b * C
        flat k = omega (arith, e, ap (λ (n : ℕ). n * A) k, ap (λ (n : ℕ). n * B) k)

        line : (x y : ℕ) → y ≤ x → x * A + y * C ≡ y * A + x * C → (x - y) * A ≡ (x - y) * C
        line x y m h = let d : x ≡ y + (x - y) = omega (arith, m) in omega (arith, h, ap (λ (n : ℕ). n * A) d, ap (λ (n : ℕ). n * C) d)

    go : (a ≡ b) ⊎ ((a < b) ⊎ (b < a)) → (a ≡ c) ⊎ ((a < c) ⊎ (c < a)) → Second a b c A B C
    go (inl m) k = absurd (n m)
    go (inr m) (inl k) = absurd (none k)
    go (inr (inl m)) (inr (inr k)) = absurd (f.1 k m)
    go (inr (inr m)) (inr (inl k)) = absurd (f.0 m k)
    go (inr (inl m)) (inr (inl k)) = (b - a, c - a, c - a, b - a, omega (arith, m), omega arith, omega (arith, ap (λ (n : ℕ). (c - a) * n) x, ap (λ (n : ℕ). (b - a) * n) y), omega (arith, e, ap (λ (n : ℕ). n * A) x, ap (λ (n : ℕ). n * A) y, ap (λ (n : ℕ). n * C) x, ap (λ (n : ℕ). n * B) y), (λ h. omega (arith, h, ap (λ (n : ℕ). (c - a) * n) x, mul-le 1 1 (b - a) (c - a) (omega (arith, m)) (omega (arith, k)))))
      where
        x : b ≡ a + (b - a)
        x = omega (arith, m)

        y : c ≡ a + (c - a)
        y = omega (arith, k)
    go (inr (inr m)) (inr (inr k)) = (a - b, a - c, a - c, a - b, omega (arith, m), omega arith, omega (arith, ap (λ (n : ℕ). (a - c) * n) x, ap (λ (n : ℕ). (a - b) * n) y), omega (arith, e, ap (λ (n : ℕ). n * A) x, ap (λ (n : ℕ). n * A) y, ap (λ (n : ℕ). n * C) x, ap (λ (n : ℕ). n * B) y), (λ h. omega (arith, h, ap (λ (n : ℕ). (a - c) * n) x, mul-le 1 1 (a - b) (a - c) (omega (arith, m)) (omega (arith, k)))))
      where
        x : a ≡ b + (a - b)
        x = omega (arith, m)

        y : a ≡ c + (a - c)
        y = omega (arith, k)

-- segments from z in one direction have another point in common
pub rays-meet : (z p q : ℕ × ℕ) → (z ≡ p → ⊥) → (z ≡ q → ⊥) → same_way z p q ≡ true
    → (s : ℕ) × (t : ℕ) × (u : ℕ) × (w : ℕ) × (0 < s + t) × (s + t ≡ u + w) × (weighted s z t p ≡ weighted u z w q) × (weighted s z t p ≡ times (s + t) z → ⊥)
rays-meet z p q n k h = go (cases_eq z.0 p.0)
  where
    parts : (in_line z p q ≡ true) × ((not (on_two_sides z.0 p.0 q.0) && not (on_two_sides z.1 p.1 q.1)) ≡ true)
    parts = and_parts (in_line z p q) (not (on_two_sides z.0 p.0 q.0) && not (on_two_sides z.1 p.1 q.1)) h

    sides : (not (on_two_sides z.0 p.0 q.0) ≡ true) × (not (on_two_sides z.1 p.1 q.1) ≡ true)
    sides = and_parts (not (on_two_sides z.0 p.0 q.0)) (not (on_two_sides z.1 p.1 q.1)) parts.1

    line : low z p q ≡ high z p q
    line = line-equal z p q parts.0

    pair : (a b : ℕ × ℕ) → a.0 ≡ b.0 → a.1 ≡ b.1 → a ≡ b
    pair a b x y = ap₂ (λ (u v : ℕ). (u, v)) x y

    go : (z.0 ≡ p.0) ⊎ (z.0 ≡ p.0 → ⊥) → (s : ℕ) × (t : ℕ) × (u : ℕ) × (w : ℕ) × (0 < s + t) × (s + t ≡ u + w) × (weighted s z t p ≡ weighted u z w q) × (weighted s z t p ≡ times (s + t) z → ⊥)
    go (inr m) = let f : Second z.0 p.0 q.0 z.1 p.1 q.1 = second z.0 p.0 q.0 z.1 p.1 q.1 m (omega (arith, line)) (two-parts z.0 p.0 q.0 (not-true (on_two_sides z.0 p.0 q.0) sides.0)) (λ x y. k (pair z q x y)) in
        (f.0, f.1, f.2, f.3, f.4, f.5, pair (weighted f.0 z f.1 p) (weighted f.2 z f.3 q) f.6 f.7, λ e. f.8 (ap (λ (v : ℕ × ℕ). v.0) e))
    go (inl m) = let f : Second z.1 p.1 q.1 z.0 p.0 q.0 = second z.1 p.1 q.1 z.0 p.0 q.0 (λ y. n (pair z p m y)) (omega (arith, line)) (two-parts z.1 p.1 q.1 (not-true (on_two_sides z.1 p.1 q.1) sides.1)) (λ x y. k (pair z q y x)) in
        (f.0, f.1, f.2, f.3, f.4, f.5, pair (weighted f.0 z f.1 p) (weighted f.2 z f.3 q) f.7 f.6, λ e. f.8 (ap (λ (v : ℕ × ℕ). v.1) e))
