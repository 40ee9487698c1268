-- Segments meet exactly where they are not apart.
use Rattle.std.proofs.Common.{◌≡◌, ℕ, ◌⊎◌, inl, inr, ◌<◌, ◌≤◌, ◌+◌, ◌*◌, ◌-◌, true, false, ◌&&◌, ◌||◌, nat_lt, arith, ap, refl, sym, ◌∙◌, ap₂, subst}
use Rattle.std.proofs.lemmas.Bool.{cases_lt, cases_order, and_parts, or_cases, or_parts, and_from, ltb-true, lt-ltb, false≢true, cases_eq}
use Rattle.std.proofs.lemmas.Nat.{mul-le}
use Rattle.plane_points.specs.Turning.{turns_left}
use Rattle.plane_points.specs.Segments.{DoMeet, both_less, boxes_apart, are_beside, are_apart}
use Rattle.plane_points.proofs.Turns.{left-true, true-left}

-- the two sums of a turn
abbrev pub low : ℕ × ℕ → ℕ × ℕ → ℕ × ℕ → ℕ
low a b c = a.0 * c.1 + b.0 * a.1 + c.0 * b.1

abbrev pub high : ℕ × ℕ → ℕ × ℕ → ℕ × ℕ → ℕ
high a b c = a.0 * b.1 + b.0 * c.1 + c.0 * a.1

-- a point of the segment from a to b makes no turn with them
pub balanced : (a b c d : ℕ × ℕ) (s t u w : ℕ) → s + t ≡ u + w → s * a.0 + t * b.0 ≡ u * c.0 + w * d.0 → s * a.1 + t * b.1 ≡ u * c.1 + w * d.1
    → u * low a b c + w * low a b d ≡ u * high a b c + w * high a b d
balanced a b c d s t u w e x y = omega (arith, ap (λ (n : ℕ). n * b.1) x, ap (λ (n : ℕ). n * a.1) x, ap (λ (n : ℕ). n * a.0) y, ap (λ (n : ℕ). n * b.0) y, ap (λ (n : ℕ). n * (b.0 * a.1)) e, ap (λ (n : ℕ). n * (a.0 * b.1)) e)

-- a sum with weights is greater where each of the two is
pub more : (u w x y z v : ℕ) → 0 < u + w → x < y → z < v → u * x + w * z < u * y + w * v
more u w x y z v h p q = omega (arith, h, mul-le u (x + 1) u y (omega arith) (omega (arith, p)), mul-le w (z + 1) w v (omega arith) (omega (arith, q)))

beside-apart : (a b c d : ℕ × ℕ) → (s t u w : ℕ) → 0 < s + t → s + t ≡ u + w → s * a.0 + t * b.0 ≡ u * c.0 + w * d.0 → s * a.1 + t * b.1 ≡ u * c.1 + w * d.1 → are_beside a b c d ≡ true → ⊥
beside-apart a b c d s t u w n e x y h = elim (or_cases (turns_left a b c && turns_left a b d) (turns_left b a c && turns_left b a d) h) [
  | inl p ↦ let q = and_parts (turns_left a b c) (turns_left a b d) p in
      omega (arith, balanced a b c d s t u w e x y, more u w (low a b c) (high a b c) (low a b d) (high a b d) (omega (arith, n, e)) (left-true a b c q.0) (left-true a b d q.1))
  | inr p ↦ let q = and_parts (turns_left b a c) (turns_left b a d) p in
      omega (arith, balanced b a c d t s u w (omega (arith, e)) (omega (arith, x)) (omega (arith, y)), more u w (low b a c) (high b a c) (low b a d) (high b a d) (omega (arith, n, e)) (left-true b a c q.0) (left-true b a d q.1))
]

less-parts : (a b c d : ℕ) → both_less a b c d ≡ true → (a < c) × (a < d) × (b < c) × (b < d)
less-parts a b c d h = let p = and_parts (nat_lt a c) (nat_lt a d && (nat_lt b c && nat_lt b d)) h in let q = and_parts (nat_lt a d) (nat_lt b c && nat_lt b d) p.1 in let r = and_parts (nat_lt b c) (nat_lt b d) q.1 in
    (ltb-true a c p.0, ltb-true a d q.0, ltb-true b c r.0, ltb-true b d r.1)

less-apart : (a b c d s t u w : ℕ) → 0 < s + t → s + t ≡ u + w → s * a + t * b ≡ u * c + w * d → both_less a b c d ≡ true → ⊥
less-apart a b c d s t u w n e x h = let m : (a < c) × (a < d) × (b < c) × (b < d) = less-parts a b c d h in
    elim (cases_lt a b) [
      | inl l ↦ omega (arith, x, n, e, ap (λ (k : ℕ). k * b) e, mul-le s a s b (omega arith) (omega (arith, l)), more u w b c b d (omega (arith, n, e)) m.2 m.3)
      | inr l ↦ omega (arith, x, n, e, ap (λ (k : ℕ). k * a) e, mul-le t b t a (omega arith) l, more u w a c a d (omega (arith, n, e)) m.0 m.1)
    ]

-- segments with a point in common are not apart
pub meet-apart : (a b c d : ℕ × ℕ) → DoMeet a b c d → are_apart a b c d ≡ true → ⊥
meet-apart a b c d m h = elim (or_cases (boxes_apart a b c d) (are_beside a b c d || are_beside c d a b) h) [
  | inl p ↦ boxes p
  | inr p ↦ elim (or_cases (are_beside a b c d) (are_beside c d a b) p) [
    | inl q ↦ beside-apart a b c d m.s m.t m.u m.w m.some m.same (ap (λ (z : ℕ × ℕ). z.0) m.there) (ap (λ (z : ℕ × ℕ). z.1) m.there) q
    | inr q ↦ beside-apart c d a b m.u m.w m.s m.t (omega (arith, m.some, m.same)) (sym m.same) (sym (ap (λ (z : ℕ × ℕ). z.0) m.there)) (sym (ap (λ (z : ℕ × ℕ). z.1) m.there)) q
  ]
]
  where
    x : m.s * a.0 + m.t * b.0 ≡ m.u * c.0 + m.w * d.0
    x = ap (λ (z : ℕ × ℕ). z.0) m.there

    y : m.s * a.1 + m.t * b.1 ≡ m.u * c.1 + m.w * d.1
    y = ap (λ (z : ℕ × ℕ). z.1) m.there

    boxes : boxes_apart a b c d ≡ true → ⊥
    boxes p = elim (or_cases (both_less a.0 b.0 c.0 d.0) (both_less c.0 d.0 a.0 b.0 || (both_less a.1 b.1 c.1 d.1 || both_less c.1 d.1 a.1 b.1)) p) [
      | inl q ↦ less-apart a.0 b.0 c.0 d.0 m.s m.t m.u m.w m.some m.same x q
      | inr q ↦ elim (or_cases (both_less c.0 d.0 a.0 b.0) (both_less a.1 b.1 c.1 d.1 || both_less c.1 d.1 a.1 b.1) q) [
        | inl r ↦ less-apart c.0 d.0 a.0 b.0 m.u m.w m.s m.t (omega (arith, m.some, m.same)) (sym m.same) (sym x) r
        | inr r ↦ elim (or_cases (both_less a.1 b.1 c.1 d.1) (both_less c.1 d.1 a.1 b.1) r) [
          | inl v ↦ less-apart a.1 b.1 c.1 d.1 m.s m.t m.u m.w m.some m.same y v
          | inr v ↦ less-apart c.1 d.1 a.1 b.1 m.u m.w m.s m.t (omega (arith, m.some, m.same)) (sym m.same) (sym y) v
        ]
      ]
    ]

-- the point where the line through a and b crosses the one through c and d: a on the left of c d or on it, b on the right or on it,
-- and not both on it; c on the right of a b or on it, d on the left or on it
crossing : (a b c d : ℕ × ℕ) → low c d a ≤ high c d a → high c d b ≤ low c d b → high a b c ≤ low a b c → low a b d ≤ high a b d
    → 0 < (low c d b - high c d b) + (high c d a - low c d a) → DoMeet a b c d
crossing a b c d h i j k n = record {
  s = low c d b - high c d b;
  t = high c d a - low c d a;
  u = high a b d - low a b d;
  w = low a b c - high a b c;
  some = n;
  same = sums;
  there = ap₂ (λ (x y : ℕ). (x, y)) wide tall;
}
  where
    x : high c d a ≡ low c d a + (high c d a - low c d a)
    x = omega (arith, h)

    y : low c d b ≡ high c d b + (low c d b - high c d b)
    y = omega (arith, i)

    z : low a b c ≡ high a b c + (low a b c - high a b c)
    z = omega (arith, j)

    v : high a b d ≡ low a b d + (high a b d - low a b d)
    v = omega (arith, k)

    sums : (low c d b - high c d b) + (high c d a - low c d a) ≡ (high a b d - low a b d) + (low a b c - high a b c)
    sums = omega (arith, x, y, z, v)

    place : (p q r s xx yy zz vv : ℕ) → high c d a ≡ low c d a + xx → low c d b ≡ high c d b + yy → low a b c ≡ high a b c + zz → high a b d ≡ low a b d + vv
        → low c d b * p + high c d a * q + (high a b c * s + low a b d * r) ≡ high c d b * p + low c d a * q + (low a b c * s + high a b d * r)
        → yy * p + xx * q ≡ vv * r + zz * s
    place p q r s xx yy zz vv x y z v e = omega (arith, e, ap (λ (n : ℕ). n * p) y, ap (λ (n : ℕ). n * q) x, ap (λ (n : ℕ). n * s) z, ap (λ (n : ℕ). n * r) v)

    wide : (low c d b - high c d b) * a.0 + (high c d a - low c d a) * b.0 ≡ (high a b d - low a b d) * c.0 + (low a b c - high a b c) * d.0
    wide = place a.0 b.0 c.0 d.0 (high c d a - low c d a) (low c d b - high c d b) (low a b c - high a b c) (high a b d - low a b d) x y z v (omega arith)

    tall : (low c d b - high c d b) * a.1 + (high c d a - low c d a) * b.1 ≡ (high a b d - low a b d) * c.1 + (low a b c - high a b c) * d.1
    tall = place a.1 b.1 c.1 d.1 (high c d a - low c d a) (low c d b - high c d b) (low a b c - high a b c) (high a b d - low a b d) x y z v (omega arith)

-- the same with the other ends first, and with the segments exchanged
turn-second : (a b c d : ℕ × ℕ) → DoMeet a b d c → DoMeet a b c d
turn-second a b c d m = record {
  s = m.s;
  t = m.t;
  u = m.w;
  w = m.u;
  some = m.some;
  same = omega (arith, m.same);
  there = m.there ∙ ap₂ (λ (x y : ℕ). (x, y)) (omega arith) (omega arith);
}

-- a number between two others, with weights; P is on the line through A and B where p is between a and b
abbrev pub Between : (a b p A B P : ℕ) → Type 0
Between a b p A B P = (s : ℕ) × (t : ℕ) × (0 < s + t) × (s * a + t * b ≡ (s + t) * p) × (s * A + t * B ≡ (s + t) * P)

pub between : (a b p A B P : ℕ) → a ≤ p → p ≤ b → a < b → a * P + b * A + p * B ≡ a * B + b * P + p * A → Between a b p A B P
between a b p A B P h k l e = (b - p, p - a, omega (arith, h, k, l), first, second)
  where
    x : b ≡ p + (b - p)
    x = omega (arith, k)

    y : p ≡ a + (p - a)
    y = omega (arith, h)

    first : (b - p) * a + (p - a) * b ≡ ((b - p) + (p - a)) * p
    first = omega (arith, ap (λ (n : ℕ). n * (p - a)) x, ap (λ (n : ℕ). n * (b - p)) y)

    second : (b - p) * A + (p - a) * B ≡ ((b - p) + (p - a)) * P
    second = omega (arith, e, ap (λ (n : ℕ). n * A) x, ap (λ (n : ℕ). n * B) y, ap (λ (n : ℕ). n * P) x, ap (λ (n : ℕ). n * P) y)

-- four numbers in a line each: two segments with a point in common
abbrev Common : (a b c d A B C D : ℕ) → Type 0
Common a b c d A B C D = (s : ℕ) × (t : ℕ) × (u : ℕ) × (w : ℕ) × (0 < s + t) × (s + t ≡ u + w) × (s * a + t * b ≡ u * c + w * d) × (s * A + t * B ≡ u * C + w * D)

-- three in a line
abbrev InLine : (a b p A B P : ℕ) → Type 0
InLine a b p A B P = a * P + b * A + p * B ≡ a * B + b * P + p * A

turn-pair : (a b c d A B C D : ℕ) → Common b a c d B A C D → Common a b c d A B C D
turn-pair a b c d A B C D (s, t, u, w, n, e, x, y) = (t, s, u, w, omega (arith, n), omega (arith, e), omega (arith, x), omega (arith, y))

exchange-pairs : (a b c d A B C D : ℕ) → Common c d a b C D A B → Common a b c d A B C D
exchange-pairs a b c d A B C D (s, t, u, w, n, e, x, y) = (u, w, s, t, omega (arith, n, e), sym e, sym x, sym y)

-- a is less than b, and the two intervals have a number in common
wide : (a b c d A B C D : ℕ) → a < b → InLine a b c A B C → InLine a b d A B D → InLine c d a C D A → (c < a → d < a → ⊥) → (b < c → b < d → ⊥) → Common a b c d A B C D
wide a b c d A B C D l p q r below above = elim (cases_lt c a) [
  | inl h ↦ elim (cases_lt d a) [
    | inl k ↦ absurd (below h k)
    | inr k ↦ elim (cases_lt b d) [
      | inl m ↦ let f : Between c d a C D A = between c d a C D A (omega (arith, h)) (omega (arith, k)) (omega (arith, h, k)) r in
          (f.0 + f.1, 0, f.0, f.1, omega (arith, f.2), omega arith, omega (arith, f.3), omega (arith, f.4))
      | inr m ↦ let f : Between a b d A B D = between a b d A B D k m l q in (f.0, f.1, 0, f.0 + f.1, f.2, omega arith, omega (arith, f.3), omega (arith, f.4))
    ]
  ]
  | inr h ↦ elim (cases_lt b c) [
    | inl k ↦ elim (cases_lt b d) [
      | inl m ↦ absurd (above k m)
      | inr m ↦ elim (cases_lt d a) [
        | inl n ↦ let f : Between d c a D C A = between d c a D C A (omega (arith, n)) h (omega (arith, n, h)) (omega (arith, r)) in
            (f.0 + f.1, 0, f.1, f.0, omega (arith, f.2), omega arith, omega (arith, f.3), omega (arith, f.4))
        | inr n ↦ let f : Between a b d A B D = between a b d A B D n m l q in (f.0, f.1, 0, f.0 + f.1, f.2, omega arith, omega (arith, f.3), omega (arith, f.4))
      ]
    ]
    | inr k ↦ let f : Between a b c A B C = between a b c A B C h k l p in (f.0, f.1, f.0 + f.1, 0, f.2, omega arith, omega (arith, f.3), omega (arith, f.4))
  ]
]

less-from : (a b c d : ℕ) → a < c → a < d → b < c → b < d → both_less a b c d ≡ true
less-from a b c d h k m n = rw (lt-ltb a c h, lt-ltb a d k, lt-ltb b c m, lt-ltb b d n)

-- a and b differ, and the intervals are not apart
differ : (a b c d A B C D : ℕ) → (a ≡ b → ⊥) → InLine a b c A B C → InLine a b d A B D → InLine c d a C D A → InLine c d b C D B
    → both_less a b c d ≡ false → both_less c d a b ≡ false → Common a b c d A B C D
differ a b c d A B C D n p q r v e f = elim (cases_order a b) [
  | inl s ↦ absurd (n s)
  | inr (inl l) ↦ wide a b c d A B C D l p q r (λ h k. false≢true (sym f ∙ less-from c d a b h (omega (arith, h, l)) k (omega (arith, k, l)))) (λ h k. false≢true (sym e ∙ less-from a b c d (omega (arith, h, l)) (omega (arith, k, l)) h k))
  | inr (inr l) ↦ turn-pair a b c d A B C D (wide b a c d B A C D l (omega (arith, p)) (omega (arith, q)) v (λ h k. false≢true (sym f ∙ less-from c d a b (omega (arith, h, l)) h (omega (arith, k, l)) k)) (λ h k. false≢true (sym e ∙ less-from a b c d h k (omega (arith, h, l)) (omega (arith, k, l)))))
]

-- intervals that are single numbers and not apart
single : (a c : ℕ) → both_less a a c c ≡ false → both_less c c a a ≡ false → a ≡ c
single a c e f = elim (cases_order a c) [
  | inl s ↦ s
  | inr (inl l) ↦ absurd (false≢true (sym e ∙ less-from a a c c l l l l))
  | inr (inr l) ↦ absurd (false≢true (sym f ∙ less-from c c a a l l l l))
]

-- all four in a line, and their boxes are not apart
in-line : (a b c d : ℕ × ℕ) → InLine a.0 b.0 c.0 a.1 b.1 c.1 → InLine a.0 b.0 d.0 a.1 b.1 d.1 → InLine c.0 d.0 a.0 c.1 d.1 a.1 → InLine c.0 d.0 b.0 c.1 d.1 b.1 → boxes_apart a b c d ≡ false → Common a.0 b.0 c.0 d.0 a.1 b.1 c.1 d.1
in-line a b c d p q r v e = by-width (cases_eq a.0 b.0) (cases_eq c.0 d.0)
  where
    one : (both_less a.0 b.0 c.0 d.0 ≡ false) × ((both_less c.0 d.0 a.0 b.0 || (both_less a.1 b.1 c.1 d.1 || both_less c.1 d.1 a.1 b.1)) ≡ false)
    one = or_parts (both_less a.0 b.0 c.0 d.0) (both_less c.0 d.0 a.0 b.0 || (both_less a.1 b.1 c.1 d.1 || both_less c.1 d.1 a.1 b.1)) e

    two : (both_less c.0 d.0 a.0 b.0 ≡ false) × ((both_less a.1 b.1 c.1 d.1 || both_less c.1 d.1 a.1 b.1) ≡ false)
    two = or_parts (both_less c.0 d.0 a.0 b.0) (both_less a.1 b.1 c.1 d.1 || both_less c.1 d.1 a.1 b.1) one.1

    three : (both_less a.1 b.1 c.1 d.1 ≡ false) × (both_less c.1 d.1 a.1 b.1 ≡ false)
    three = or_parts (both_less a.1 b.1 c.1 d.1) (both_less c.1 d.1 a.1 b.1) two.1

    turned : Common a.1 b.1 c.1 d.1 a.0 b.0 c.0 d.0 → Common a.0 b.0 c.0 d.0 a.1 b.1 c.1 d.1
    turned (s, t, u, w, n, h, x, y) = (s, t, u, w, n, h, y, x)

    by-height : (a.0 ≡ b.0) → (c.0 ≡ d.0) → (a.1 ≡ b.1) ⊎ (a.1 ≡ b.1 → ⊥) → (c.1 ≡ d.1) ⊎ (c.1 ≡ d.1 → ⊥) → Common a.0 b.0 c.0 d.0 a.1 b.1 c.1 d.1
    by-height f g (inr n) m = turned (differ a.1 b.1 c.1 d.1 a.0 b.0 c.0 d.0 n (omega (arith, p)) (omega (arith, q)) (omega (arith, r)) (omega (arith, v)) three.0 three.1)
    by-height f g (inl h) (inr n) = turned (exchange-pairs a.1 b.1 c.1 d.1 a.0 b.0 c.0 d.0 (differ c.1 d.1 a.1 b.1 c.0 d.0 a.0 b.0 n (omega (arith, r)) (omega (arith, v)) (omega (arith, p)) (omega (arith, q)) three.1 three.0))
    by-height f g (inl h) (inl k) = (1, 0, 1, 0, omega arith, refl, omega (arith, across), omega (arith, up))
      where
        across : a.0 ≡ c.0
        across = single a.0 c.0 (subst (λ (z : ℕ). both_less a.0 z c.0 c.0 ≡ false) (sym f) (subst (λ (z : ℕ). both_less a.0 b.0 c.0 z ≡ false) (sym g) one.0)) (subst (λ (z : ℕ). both_less c.0 c.0 a.0 z ≡ false) (sym f) (subst (λ (z : ℕ). both_less c.0 z a.0 b.0 ≡ false) (sym g) two.0))

        up : a.1 ≡ c.1
        up = single a.1 c.1 (subst (λ (z : ℕ). both_less a.1 z c.1 c.1 ≡ false) (sym h) (subst (λ (z : ℕ). both_less a.1 b.1 c.1 z ≡ false) (sym k) three.0)) (subst (λ (z : ℕ). both_less c.1 c.1 a.1 z ≡ false) (sym h) (subst (λ (z : ℕ). both_less c.1 z a.1 b.1 ≡ false) (sym k) three.1))

    by-width : (a.0 ≡ b.0) ⊎ (a.0 ≡ b.0 → ⊥) → (c.0 ≡ d.0) ⊎ (c.0 ≡ d.0 → ⊥) → Common a.0 b.0 c.0 d.0 a.1 b.1 c.1 d.1
    by-width (inr n) m = differ a.0 b.0 c.0 d.0 a.1 b.1 c.1 d.1 n p q r v one.0 two.0
    by-width (inl h) (inr n) = exchange-pairs a.0 b.0 c.0 d.0 a.1 b.1 c.1 d.1 (differ c.0 d.0 a.0 b.0 c.1 d.1 a.1 b.1 n r v p q two.0 one.0)
    by-width (inl h) (inl k) = by-height h k (cases_eq a.1 b.1) (cases_eq c.1 d.1)

-- no turn of both to one side
not-beside : (a b c d : ℕ × ℕ) → are_beside a b c d ≡ false → ((low a b c ≤ high a b c) × (high a b d ≤ low a b d)) ⊎ ((high a b c ≤ low a b c) × (low a b d ≤ high a b d))
not-beside a b c d h = elim (cases_order (low a b c) (high a b c)) [
  | inl e ↦ elim (cases_lt (low a b d) (high a b d)) [ inl l ↦ inr (omega (arith, e), omega (arith, l)) | inr l ↦ inl (omega (arith, e), l) ]
  | inr (inl k) ↦ elim (cases_lt (low a b d) (high a b d)) [
    | inl l ↦ absurd (false≢true (sym (or_parts (turns_left a b c && turns_left a b d) (turns_left b a c && turns_left b a d) h).0 ∙ and_from (turns_left a b c) (turns_left a b d) (true-left a b c k) (true-left a b d l)))
    | inr l ↦ inl (omega (arith, k), l)
  ]
  | inr (inr k) ↦ elim (cases_lt (high a b d) (low a b d)) [
    | inl l ↦ absurd (false≢true (sym (or_parts (turns_left a b c && turns_left a b d) (turns_left b a c && turns_left b a d) h).1 ∙ and_from (turns_left b a c) (turns_left b a d) (true-left b a c (omega (arith, k))) (true-left b a d (omega (arith, l)))))
    | inr l ↦ inr (omega (arith, k), l)
  ]
]

-- segments that are not apart have a point in common
pub near-meet : (a b c d : ℕ × ℕ) → are_apart a b c d ≡ false → DoMeet a b c d
near-meet a b c d h = go (not-beside a b c d sides.0) (not-beside c d a b sides.1)
  where
    parts : (boxes_apart a b c d ≡ false) × ((are_beside a b c d || are_beside c d a b) ≡ false)
    parts = or_parts (boxes_apart a b c d) (are_beside a b c d || are_beside c d a b) h

    sides : (are_beside a b c d ≡ false) × (are_beside c d a b ≡ false)
    sides = or_parts (are_beside a b c d) (are_beside c d a b) parts.1

    -- the four turns add up
    sum : high c d a + low c d b + (low a b d + high a b c) ≡ low c d a + high c d b + (high a b d + low a b c)
    sum = omega arith

    flat : high a b c ≡ low a b c → high a b d ≡ low a b d → high c d a ≡ low c d a → high c d b ≡ low c d b → DoMeet a b c d
    flat p q r v = let f : Common a.0 b.0 c.0 d.0 a.1 b.1 c.1 d.1 = in-line a b c d (omega (arith, p)) (omega (arith, q)) (omega (arith, r)) (omega (arith, v)) parts.0 in
        record { s = f.0; t = f.1; u = f.2; w = f.3; some = f.4; same = f.5; there = ap₂ (λ (x y : ℕ). (x, y)) f.6 f.7 }

    go : ((low a b c ≤ high a b c) × (high a b d ≤ low a b d)) ⊎ ((high a b c ≤ low a b c) × (low a b d ≤ high a b d))
        → ((low c d a ≤ high c d a) × (high c d b ≤ low c d b)) ⊎ ((high c d a ≤ low c d a) × (low c d b ≤ high c d b)) → DoMeet a b c d
    go (inl x) (inl y) = flat (omega (arith, x.0, x.1, y.0, y.1, sum)) (omega (arith, x.0, x.1, y.0, y.1, sum)) (omega (arith, x.0, x.1, y.0, y.1, sum)) (omega (arith, x.0, x.1, y.0, y.1, sum))
    go (inr x) (inr y) = flat (omega (arith, x.0, x.1, y.0, y.1, sum)) (omega (arith, x.0, x.1, y.0, y.1, sum)) (omega (arith, x.0, x.1, y.0, y.1, sum)) (omega (arith, x.0, x.1, y.0, y.1, sum))
    go (inr x) (inl y) = elim (cases_lt 0 ((low c d b - high c d b) + (high c d a - low c d a))) [
      | inl n ↦ crossing a b c d y.0 y.1 x.0 x.1 n
      | inr n ↦ flat (omega (arith, x.0, x.1, y.0, y.1, sum, n)) (omega (arith, x.0, x.1, y.0, y.1, sum, n)) (omega (arith, x.0, x.1, y.0, y.1, sum, n)) (omega (arith, x.0, x.1, y.0, y.1, sum, n))
    ]
    go (inl x) (inr y) = elim (cases_lt 0 ((low d c b - high d c b) + (high d c a - low d c a))) [
      | inl n ↦ turn-second a b c d (crossing a b d c (omega (arith, y.0)) (omega (arith, y.1)) x.1 x.0 n)
      | inr n ↦ flat (omega (arith, x.0, x.1, y.0, y.1, sum, n)) (omega (arith, x.0, x.1, y.0, y.1, sum, n)) (omega (arith, x.0, x.1, y.0, y.1, sum, n)) (omega (arith, x.0, x.1, y.0, y.1, sum, n))
    ]
