-- The order around the points of the old contour: two of three turns to the left, and neighbours in different directions.
use Rattle.std.proofs.Common.{◌≡◌, ℕ, ◌⊎◌, inl, inr, ◌<◌, ◌≤◌, ◌+◌, ◌*◌, ◌-◌, true, arith, ap}
use Rattle.std.proofs.lemmas.Bool.{cases_lt}
use Rattle.std.proofs.lemmas.Nat.{mul-le}
use Rattle.std.proofs.Math.Nat.{mul-lt-mul_of_pos_left, lt_of_mul-lt-mul_right}
use Rattle.plane_points.specs.Turning.{turns_left, comes_before}
use Rattle.plane_points.proofs.Turns.{Left, left-true, true-left, left-around, widths, spread, AddUp}
use Rattle.plane_points.proofs.Segments.{low, high}
use Rattle.plane_points.proofs.Directions.{Upper, Lower, half, upper-low, lower-high, true-comes}
use Rattle.stacked_points.specs.Laws.{InnerTurns, LeftEndTurns, RightEndTurns, FirstTurns, LastTurns, SidesDiffer, FirstDiffer, LastDiffer}

-- p to the left of t, r to the right: where p, q is a turn to the left or none, and q, r one to the right, p, r is one to the left, for q
-- to the right of t; and for q to its left where the two are the other way around
right-across : (A B C D E F p q r t u v w : ℕ) → AddUp A B C D E F p q r t → t ≡ p + u → q ≡ t + v → r ≡ t + w → 0 < u → A ≤ B → D < C → E < F
right-across A B C D E F p q r t u v w e x y z o h k = lt_of_mul-lt-mul_right v weighed
  where
    second : D * u + u ≤ C * u
    second = omega (arith, mul-le (D + 1) u C u (omega (arith, k)) (omega arith))

    first : A * w ≤ B * w
    first = mul-le A w B w h (omega arith)

    weighed : E * v < F * v
    weighed = omega (arith, e, o, first, second, spread E q t v y, spread F q t v y, spread B r t w z, spread A r t w z, spread D t p u x, spread C t p u x)

left-across : (A B C D E F p q r t u v w : ℕ) → AddUp A B C D E F p q r t → t ≡ p + u → t ≡ q + v → r ≡ t + w → 0 < w → B < A → C ≤ D → E < F
left-across A B C D E F p q r t u v w e x y z o h k = lt_of_mul-lt-mul_right v weighed
  where
    first : B * w + w ≤ A * w
    first = omega (arith, mul-le (B + 1) w A w (omega (arith, h)) (omega arith))

    second : C * u ≤ D * u
    second = mul-le C u D u k (omega arith)

    weighed : E * v < F * v
    weighed = omega (arith, e, o, first, second, spread E t q v y, spread F t q v y, spread B r t w z, spread A r t w z, spread D t p u x, spread C t p u x)

pub inner_turns : InnerTurns
inner_turns c x v y h k = inl (h, true-left c v y (left-around y c v (left-true y c v k)))

pub left_end_turns : LeftEndTurns
left_end_turns c x v y i j k h = elim (cases_lt (low c v y) (high c v y)) [
  | inl l ↦ inl (h, true-left c v y l)
  | inr l ↦ inr (inr (
    true-left c y x (right-across (low c y v) (high c y v) (low c v x) (high c v x) (low c y x) (high c y x) y.0 v.0 x.0 c.0 (c.0 - y.0) (v.0 - c.0) (x.0 - c.0)
        (widths c y v x) (omega (arith, i)) (omega (arith, k)) (omega (arith, j)) (omega (arith, i)) (omega (arith, l)) (omega (arith, left-true c x v h))),
    h,
  ))
]

pub right_end_turns : RightEndTurns
right_end_turns c x v y i j k h = elim (cases_lt (low c x v) (high c x v)) [
  | inl l ↦ inl (true-left c x v l, turn)
  | inr l ↦ inr (inl (
    turn,
    true-left c y x (left-across (low c y v) (high c y v) (low c v x) (high c v x) (low c y x) (high c y x) y.0 v.0 x.0 c.0 (c.0 - y.0) (c.0 - v.0) (x.0 - c.0)
        (widths c y v x) (omega (arith, i)) (omega (arith, k)) (omega (arith, j)) (omega (arith, j)) (omega (arith, left-true y c v h)) (omega (arith, l))),
  ))
]
  where
    turn : turns_left c v y ≡ true
    turn = true-left c v y (left-around y c v (left-true y c v h))

-- from the lower end of a level way to the right
first-turn : (c x y : ℕ × ℕ) → y.1 ≡ c.1 → c.0 < y.0 → c.1 < x.1 → Left c y x
first-turn c x y e i j = let d : y.0 ≡ c.0 + (y.0 - c.0) = omega (arith, i) in
    omega (arith, ap (λ (n : ℕ). n * c.0) e, ap (λ (n : ℕ). n * x.0) e, ap (λ (n : ℕ). n * x.1) d, ap (λ (n : ℕ). n * c.1) d, mul-lt-mul_of_pos_left {m = c.1} {n = x.1} {k = y.0 - c.0} j (omega (arith, i)))

last-turn : (c x y : ℕ × ℕ) → x.1 ≡ c.1 → x.0 < c.0 → c.1 < y.1 → Left c y x
last-turn c x y e i j = let d : c.0 ≡ x.0 + (c.0 - x.0) = omega (arith, i) in
    omega (arith, ap (λ (n : ℕ). n * c.0) e, ap (λ (n : ℕ). n * y.0) e, ap (λ (n : ℕ). n * y.1) d, ap (λ (n : ℕ). n * c.1) d, mul-lt-mul_of_pos_left {m = c.1} {n = y.1} {k = c.0 - x.0} j (omega (arith, i)))

pub first_turns : FirstTurns
first_turns c x v y e i j h = inr (inr (true-left c y x (first-turn c x y e i j), h))

pub last_turns : LastTurns
last_turns c x v y e i j h = inr (inl (true-left c v y (left-around y c v (left-true y c v h)), true-left c y x (last-turn c x y e i j)))

-- x to the right of c and y to the left, both above or both below
above-turn : (c x y : ℕ × ℕ) → y.0 < c.0 → c.0 < x.0 → c.1 ≤ x.1 → c.1 < y.1 → Left c x y
above-turn c x y i j h k = let d : x.0 ≡ c.0 + (x.0 - c.0) = omega (arith, j) in
    let e : c.0 ≡ y.0 + (c.0 - y.0) = omega (arith, i) in
    omega (arith, ap (λ (n : ℕ). n * y.1) d, ap (λ (n : ℕ). n * c.1) d, ap (λ (n : ℕ). n * x.1) e, ap (λ (n : ℕ). n * c.1) e, mul-lt-mul_of_pos_left {m = c.1} {n = y.1} {k = x.0 - c.0} k (omega (arith, j)), mul-le (c.0 - y.0) c.1 (c.0 - y.0) x.1 (omega arith) h)

below-turn : (c x y : ℕ × ℕ) → y.0 < c.0 → c.0 < x.0 → x.1 < c.1 → y.1 ≤ c.1 → Left c y x
below-turn c x y i j h k = let d : x.0 ≡ c.0 + (x.0 - c.0) = omega (arith, j) in
    let e : c.0 ≡ y.0 + (c.0 - y.0) = omega (arith, i) in
    omega (arith, ap (λ (n : ℕ). n * y.1) d, ap (λ (n : ℕ). n * c.1) d, ap (λ (n : ℕ). n * x.1) e, ap (λ (n : ℕ). n * c.1) e, mul-lt-mul_of_pos_left {m = x.1} {n = c.1} {k = c.0 - y.0} h (omega (arith, i)), mul-le (x.0 - c.0) y.1 (x.0 - c.0) c.1 (omega arith) k)

pub sides_differ : SidesDiffer
sides_differ c x y i j = go (half c x) (half c y)
  where
    higher : Upper c y → c.1 < y.1
    higher (inl l) = l
    higher (inr s) = absurd (omega (arith, s.1, i))

    lower : Lower c x → x.1 < c.1
    lower (inl l) = l
    lower (inr s) = absurd (omega (arith, s.1, j))

    go : Upper c x ⊎ Lower c x → Upper c y ⊎ Lower c y → (comes_before c x y ≡ true) ⊎ (comes_before c y x ≡ true)
    go (inl u) (inr w) = inl (true-comes c x y (inl (u, w)))
    go (inr u) (inl w) = inr (true-comes c y x (inl (w, u)))
    go (inl u) (inl w) = inl (true-comes c x y (inr (inl (u, w), above-turn c x y i j (upper-low c x u) (higher w))))
    go (inr u) (inr w) = inr (true-comes c y x (inr (inr (w, u), below-turn c x y i j (lower u) (lower-high c y w))))

pub first_differ : FirstDiffer
first_differ c x y e i j = true-comes c y x (inr (inl (inr (e, i), inl j), first-turn c x y e i j))

pub last_differ : LastDiffer
last_differ c x y e i j = true-comes c y x (inl (inl j, inr (e, omega (arith, i))))
