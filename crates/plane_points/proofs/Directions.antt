-- Directions around a point: the two halves, and the order of the directions counterclockwise.
use Rattle.std.proofs.Common.{◌≡◌, ℕ, ◌⊎◌, inl, inr, ◌<◌, ◌≤◌, ◌+◌, ◌*◌, ◌-◌, true, false, arith, ap, sym}
use Rattle.std.proofs.lemmas.Bool.{false≢true, cases_lt, cases_order, lt-ltb, le-ltb, eq-eqb, ne_eqb}
use Rattle.std.proofs.lemmas.Nat.{mul-le}
use Rattle.plane_points.specs.Turning.{is_upper, comes_before}
use Rattle.plane_points.proofs.Turns.{Left, left-true, true-left, left-once, spread, one-side, other-side, heights}

-- above c, or at its height to the right
abbrev pub Upper : ℕ × ℕ → ℕ × ℕ → Type 0
Upper c p = (c.1 < p.1) ⊎ ((p.1 ≡ c.1) × (c.0 < p.0))

-- below c, or at its height and not to the right
abbrev pub Lower : ℕ × ℕ → ℕ × ℕ → Type 0
Lower c p = (p.1 < c.1) ⊎ ((p.1 ≡ c.1) × (p.0 ≤ c.0))

pub half : (c p : ℕ × ℕ) → Upper c p ⊎ Lower c p
half c p = elim (cases_order c.1 p.1) [
  | inl e ↦ elim (cases_lt c.0 p.0) [ inl l ↦ inl (inr (sym e, l)) | inr l ↦ inr (inr (sym e, l)) ]
  | inr (inl l) ↦ inl (inl l)
  | inr (inr l) ↦ inr (inl l)
]

pub upper-is : (c p : ℕ × ℕ) → Upper c p → is_upper c p ≡ true
upper-is c p (inl l) = rw (lt-ltb c.1 p.1 l)
upper-is c p (inr s) = rw (le-ltb c.1 p.1 (omega (arith, s.0)), eq-eqb c.1 p.1 (sym s.0), lt-ltb c.0 p.0 s.1)

pub lower-is : (c p : ℕ × ℕ) → Lower c p → is_upper c p ≡ false
lower-is c p (inl l) = rw (le-ltb c.1 p.1 (omega (arith, l)), ne_eqb c.1 p.1 (λ e. omega (arith, e, l)))
lower-is c p (inr s) = rw (le-ltb c.1 p.1 (omega (arith, s.0)), eq-eqb c.1 p.1 (sym s.0), le-ltb c.0 p.0 s.1)

pub upper-low : (c p : ℕ × ℕ) → Upper c p → c.1 ≤ p.1
upper-low c p (inl l) = omega (arith, l)
upper-low c p (inr s) = omega (arith, s.0)

pub lower-high : (c p : ℕ × ℕ) → Lower c p → p.1 ≤ c.1
lower-high c p (inl l) = omega (arith, l)
lower-high c p (inr s) = omega (arith, s.0)

-- p comes before q: in the upper half and q in the lower one, or both in one half and p, q a turn to the left
abbrev pub Comes : ℕ × ℕ → ℕ × ℕ → ℕ × ℕ → Type 0
Comes c p q = (Upper c p × Lower c q) ⊎ (((Upper c p × Upper c q) ⊎ (Lower c p × Lower c q)) × Left c p q)

pub comes-true : (c p q : ℕ × ℕ) → comes_before c p q ≡ true → Comes c p q
comes-true c p q h = go (half c p) (half c q)
  where
    go : Upper c p ⊎ Lower c p → Upper c q ⊎ Lower c q → Comes c p q
    go (inl u) (inr l) = inl (u, l)
    go (inl u) (inl v) = inr (inl (u, v), left-true c p q (rw (upper-is c p u, upper-is c q v) at h))
    go (inr l) (inr m) = inr (inr (l, m), left-true c p q (rw (lower-is c p l, lower-is c q m) at h))
    go (inr l) (inl v) = absurd (false≢true (rw (lower-is c p l, upper-is c q v) at h))

pub true-comes : (c p q : ℕ × ℕ) → Comes c p q → comes_before c p q ≡ true
true-comes c p q (inl s) = rw (upper-is c p s.0, lower-is c q s.1)
true-comes c p q (inr (inl s, l)) = rw (upper-is c p s.0, upper-is c q s.1) (true-left c p q l)
true-comes c p q (inr (inr s, l)) = rw (lower-is c p s.0, lower-is c q s.1) (true-left c p q l)

-- the halves have nothing in common
pub one-half : (c p : ℕ × ℕ) → Upper c p → Lower c p → ⊥
one-half c p (inl l) (inl m) = omega (arith, l, m)
one-half c p (inl l) (inr s) = omega (arith, l, s.0)
one-half c p (inr s) (inl m) = omega (arith, s.0, m)
one-half c p (inr s) (inr t) = omega (arith, s.1, t.1)

-- no direction of the upper half is a left turn to the right, none of the lower half one to the left
level-right : (c p q : ℕ × ℕ) → q.1 ≡ c.1 → c.0 ≤ q.0 → c.1 ≤ p.1 → Left c p q → ⊥
level-right c p q e w h l = omega (arith, l, ap (λ (n : ℕ). c.0 * n) e, ap (λ (n : ℕ). p.0 * n) e, spread c.0 p.1 c.1 (p.1 - c.1) (omega (arith, h)), spread q.0 p.1 c.1 (p.1 - c.1) (omega (arith, h)), mul-le c.0 (p.1 - c.1) q.0 (p.1 - c.1) w (omega arith))

level-left : (c p q : ℕ × ℕ) → q.1 ≡ c.1 → q.0 ≤ c.0 → p.1 ≤ c.1 → Left c p q → ⊥
level-left c p q e w h l = omega (arith, l, ap (λ (n : ℕ). c.0 * n) e, ap (λ (n : ℕ). p.0 * n) e, spread c.0 c.1 p.1 (c.1 - p.1) (omega (arith, h)), spread q.0 c.1 p.1 (c.1 - p.1) (omega (arith, h)), mul-le q.0 (c.1 - p.1) c.0 (c.1 - p.1) w (omega arith))

-- the direction to the right makes no left turn to the lower half, that to the left none to the upper one
right-first : (c p q : ℕ × ℕ) → p.1 ≡ c.1 → c.0 ≤ p.0 → q.1 ≤ c.1 → Left c p q → ⊥
right-first c p q e w h l = omega (arith, l, ap (λ (n : ℕ). c.0 * n) e, ap (λ (n : ℕ). q.0 * n) e, spread c.0 c.1 q.1 (c.1 - q.1) (omega (arith, h)), spread p.0 c.1 q.1 (c.1 - q.1) (omega (arith, h)), mul-le c.0 (c.1 - q.1) p.0 (c.1 - q.1) w (omega arith))

left-first : (c p q : ℕ × ℕ) → p.1 ≡ c.1 → p.0 ≤ c.0 → c.1 ≤ q.1 → Left c p q → ⊥
left-first c p q e w h l = omega (arith, l, ap (λ (n : ℕ). c.0 * n) e, ap (λ (n : ℕ). q.0 * n) e, spread c.0 q.1 c.1 (q.1 - c.1) (omega (arith, h)), spread p.0 q.1 c.1 (q.1 - c.1) (omega (arith, h)), mul-le p.0 (q.1 - c.1) c.0 (q.1 - c.1) w (omega arith))

-- who is turned to in the upper half is above c, and in the lower half below
turned-above : (c p q : ℕ × ℕ) → Upper c p → Upper c q → Left c p q → c.1 < q.1
turned-above c p q u (inl l) t = l
turned-above c p q u (inr s) t = absurd (level-right c p q s.0 (omega (arith, s.1)) (upper-low c p u) t)

turned-below : (c p q : ℕ × ℕ) → Lower c p → Lower c q → Left c p q → q.1 < c.1
turned-below c p q u (inl l) t = l
turned-below c p q u (inr s) t = absurd (level-left c p q s.0 s.1 (lower-high c p u) t)

-- turns within a half go on
pub upper-turns : (c p q r : ℕ × ℕ) → Upper c p → Upper c q → Upper c r → Left c p q → Left c q r → Left c p r
upper-turns c p q r u v w h k =
    let a : c.1 ≤ p.1 = upper-low c p u in
    let b : c.1 < q.1 = turned-above c p q u v h in
    let d : c.1 < r.1 = turned-above c q r v w k in
    one-side (c.0 * q.1 + p.0 * c.1 + q.0 * p.1) (c.0 * p.1 + p.0 * q.1 + q.0 * c.1) (c.0 * r.1 + q.0 * c.1 + r.0 * q.1) (c.0 * q.1 + q.0 * r.1 + r.0 * c.1)
    (c.0 * r.1 + p.0 * c.1 + r.0 * p.1) (c.0 * p.1 + p.0 * r.1 + r.0 * c.1) p.1 q.1 r.1 c.1 (p.1 - c.1) (q.1 - c.1) (r.1 - c.1)
    (heights c p q r) (inl (omega (arith, a), omega (arith, b), omega (arith, d))) h k (omega (arith, b)) (omega (arith, d))

pub lower-turns : (c p q r : ℕ × ℕ) → Lower c p → Lower c q → Lower c r → Left c p q → Left c q r → Left c p r
lower-turns c p q r u v w h k =
    let a : p.1 ≤ c.1 = lower-high c p u in
    let b : q.1 < c.1 = turned-below c p q u v h in
    let d : r.1 < c.1 = turned-below c q r v w k in
    one-side (c.0 * q.1 + p.0 * c.1 + q.0 * p.1) (c.0 * p.1 + p.0 * q.1 + q.0 * c.1) (c.0 * r.1 + q.0 * c.1 + r.0 * q.1) (c.0 * q.1 + q.0 * r.1 + r.0 * c.1)
    (c.0 * r.1 + p.0 * c.1 + r.0 * p.1) (c.0 * p.1 + p.0 * r.1 + r.0 * c.1) p.1 q.1 r.1 c.1 (c.1 - p.1) (c.1 - q.1) (c.1 - r.1)
    (heights c p q r) (inr (omega (arith, a), omega (arith, b), omega (arith, d))) h k (omega (arith, b)) (omega (arith, d))

-- the order is transitive
pub comes-trans : (c p q r : ℕ × ℕ) → Comes c p q → Comes c q r → Comes c p r
comes-trans c p q r (inl s) (inl t) = absurd (one-half c q t.0 s.1)
comes-trans c p q r (inl s) (inr (inl t, k)) = absurd (one-half c q t.0 s.1)
comes-trans c p q r (inl s) (inr (inr t, k)) = inl (s.0, t.1)
comes-trans c p q r (inr (inl s, h)) (inl t) = inl (s.0, t.1)
comes-trans c p q r (inr (inr s, h)) (inl t) = absurd (one-half c q t.0 s.1)
comes-trans c p q r (inr (inl s, h)) (inr (inl t, k)) = inr (inl (s.0, t.1), upper-turns c p q r s.0 s.1 t.1 h k)
comes-trans c p q r (inr (inl s, h)) (inr (inr t, k)) = absurd (one-half c q s.1 t.0)
comes-trans c p q r (inr (inr s, h)) (inr (inl t, k)) = absurd (one-half c q t.0 s.1)
comes-trans c p q r (inr (inr s, h)) (inr (inr t, k)) = inr (inr (s.0, t.1), lower-turns c p q r s.0 s.1 t.1 h k)

-- never both ways
pub comes-once : (c p q : ℕ × ℕ) → Comes c p q → Comes c q p → ⊥
comes-once c p q (inl s) (inl t) = one-half c q t.0 s.1
comes-once c p q (inl s) (inr (inl t, k)) = one-half c q t.0 s.1
comes-once c p q (inl s) (inr (inr t, k)) = one-half c p s.0 t.1
comes-once c p q (inr (inl s, h)) (inl t) = one-half c p s.0 t.1
comes-once c p q (inr (inr s, h)) (inl t) = one-half c q t.0 s.1
comes-once c p q (inr (s, h)) (inr (t, k)) = left-once c p q h k

-- a turn from either half by way of the other one
upper-back : (c x b y : ℕ × ℕ) → Upper c x → Lower c b → Upper c y → Left c x b → Left c b y → Left c y x
upper-back c x b y u v w h k =
    let a : c.1 ≤ x.1 = upper-low c x u in
    let l : b.1 ≤ c.1 = lower-high c b v in
    let d : c.1 ≤ y.1 = upper-low c y w in
    let r : (0 < (c.1 - b.1)) × (c.0 * x.1 + x.0 * y.1 + y.0 * c.1 < c.0 * y.1 + x.0 * c.1 + y.0 * x.1) =
    other-side (c.0 * b.1 + x.0 * c.1 + b.0 * x.1) (c.0 * x.1 + x.0 * b.1 + b.0 * c.1) (c.0 * y.1 + b.0 * c.1 + y.0 * b.1) (c.0 * b.1 + b.0 * y.1 + y.0 * c.1)
    (c.0 * y.1 + x.0 * c.1 + y.0 * x.1) (c.0 * x.1 + x.0 * y.1 + y.0 * c.1) x.1 b.1 y.1 c.1 (x.1 - c.1) (c.1 - b.1) (y.1 - c.1)
    (heights c x b y) (inl (omega (arith, a), omega (arith, l), omega (arith, d))) h k (some u) in
    omega (arith, r.1)
  where
    some : Upper c x → 0 < (x.1 - c.1) + (y.1 - c.1)
    some (inl l) = omega (arith, l)
    some (inr s) = absurd (right-first c x b s.0 (omega (arith, s.1)) (lower-high c b v) h)

lower-back : (c x b y : ℕ × ℕ) → Lower c x → Upper c b → Lower c y → Left c x b → Left c b y → Left c y x
lower-back c x b y u v w h k =
    let a : x.1 ≤ c.1 = lower-high c x u in
    let l : c.1 ≤ b.1 = upper-low c b v in
    let d : y.1 ≤ c.1 = lower-high c y w in
    let r : (0 < (b.1 - c.1)) × (c.0 * x.1 + x.0 * y.1 + y.0 * c.1 < c.0 * y.1 + x.0 * c.1 + y.0 * x.1) =
    other-side (c.0 * b.1 + x.0 * c.1 + b.0 * x.1) (c.0 * x.1 + x.0 * b.1 + b.0 * c.1) (c.0 * y.1 + b.0 * c.1 + y.0 * b.1) (c.0 * b.1 + b.0 * y.1 + y.0 * c.1)
    (c.0 * y.1 + x.0 * c.1 + y.0 * x.1) (c.0 * x.1 + x.0 * y.1 + y.0 * c.1) x.1 b.1 y.1 c.1 (c.1 - x.1) (b.1 - c.1) (c.1 - y.1)
    (heights c x b y) (inr (omega (arith, a), omega (arith, l), omega (arith, d))) h k (some u) in
    omega (arith, r.1)
  where
    some : Lower c x → 0 < (c.1 - x.1) + (c.1 - y.1)
    some (inl l) = omega (arith, l)
    some (inr s) = absurd (left-first c x b s.0 s.1 (upper-low c b v) h)

-- three directions are met in this order counterclockwise: two of the three steps go on
abbrev pub Around : ℕ × ℕ → ℕ × ℕ → ℕ × ℕ → ℕ × ℕ → Type 0
Around c x b y = (Comes c x b × Comes c b y) ⊎ ((Comes c b y × Comes c y x) ⊎ (Comes c y x × Comes c x b))

pub around-next : (c x b y : ℕ × ℕ) → Around c x b y → Around c b y x
around-next c x b y (inl s) = inr (inr s)
around-next c x b y (inr (inl s)) = inl s
around-next c x b y (inr (inr s)) = inr (inl s)

-- two turns to the left are enough
pub turns-around : (c x b y : ℕ × ℕ) → Left c x b → Left c b y → Around c x b y
turns-around c x b y h k = go (half c x) (half c b) (half c y)
  where
    go : Upper c x ⊎ Lower c x → Upper c b ⊎ Lower c b → Upper c y ⊎ Lower c y → Around c x b y
    go (inl u) (inl v) (inl w) = inl (inr (inl (u, v), h), inr (inl (v, w), k))
    go (inl u) (inl v) (inr w) = inl (inr (inl (u, v), h), inl (v, w))
    go (inl u) (inr v) (inr w) = inl (inl (u, v), inr (inr (v, w), k))
    go (inl u) (inr v) (inl w) = inr (inr (inr (inl (w, u), upper-back c x b y u v w h k), inl (u, v)))
    go (inr u) (inl v) (inl w) = inr (inl (inr (inl (v, w), k), inl (w, u)))
    go (inr u) (inl v) (inr w) = inr (inl (inl (v, w), inr (inr (w, u), lower-back c x b y u v w h k)))
    go (inr u) (inr v) (inr w) = inl (inr (inr (u, v), h), inr (inr (v, w), k))
    go (inr u) (inr v) (inl w) = inr (inr (inl (w, u), inr (inr (u, v), h)))
