-- Counts of two, and counts that are sums of three others.
use Rattle.std.proofs.Common.{◌≡◌, ◌≢◌, ℕ, zero, suc, ◌+◌, ◌<◌, ◌≤◌, ◌⊎◌, inl, inr, Bool, true, not, ◌&&◌, ◌==◌, cond, sym, ◌∙◌, arith}
use Rattle.std.proofs.lemmas.Bool.{cases_Bool, cases_eq, cases_lt, both_ways, and_from, and_parts, eq-eqb, ne_eqb, not_from_false, not-true}
use Rattle.permutations.specs.Count.{count, some}
use Rattle.permutations.proofs.Count.{count-remove, count-positive, count-none}
use Rattle.permutations.proofs.Search.{some-witness, some-none}
use Rattle.permutations.proofs.Sums.{count-sum, sum_below-ext, sum_below-add}

-- two numbers below n that pass a test
pub record Two (n : ℕ) (p : ℕ → Bool) : Type 0 where
  pub first : ℕ
  pub second : ℕ
  pub differ : first ≢ second
  pub first_in : first < n
  pub second_in : second < n
  pub first_on : p first ≡ true
  pub second_on : p second ≡ true

-- passes, and is another number than y
abbrev but : (ℕ → Bool) → ℕ → ℕ → Bool
but p y x = p x && not (x == y)

but-from : (p : ℕ → Bool) (y x : ℕ) → p x ≡ true → x ≢ y → but p y x ≡ true
but-from p y x h n = and_from (p x) (not (x == y)) h (not_from_false (x == y) (ne_eqb x y n))

but-parts : (p : ℕ → Bool) (y x : ℕ) → but p y x ≡ true → (p x ≡ true) × (x ≢ y)
but-parts p y x h = let w = and_parts (p x) (not (x == y)) h in (w.0, λ e. both_ways (x == y) (not-true (x == y) w.1) (eq-eqb x y e))

-- where one counts, there is one
pub one-of : (n : ℕ) (p : ℕ → Bool) → 1 ≤ count n p → (x : ℕ) × (x < n) × (p x ≡ true)
one-of n p l = elim (cases_Bool (some n p)) [
  | inl t ↦ some-witness n p t
  | inr f ↦ absurd (omega (arith, l, count-none n p (some-none n p f)))
]

-- where two count, there are two
pub two-of : (n : ℕ) (p : ℕ → Bool) → 2 ≤ count n p → Two n p
two-of n p l =
    let x = one-of n p (omega (arith, l)) in
    let y = one-of n (but p x.0) (omega (arith, l, count-remove n p x.0 x.1 x.2)) in
    let b = but-parts p x.0 y.0 y.2 in
    record { first = x.0; second = y.0; differ = λ e. b.1 (sym e); first_in = x.1; second_in = y.1; first_on = x.2; second_on = b.0 }

-- two count as two at least
pub two-count : (n : ℕ) (p : ℕ → Bool) → Two n p → 2 ≤ count n p
two-count n p t = omega (arith, count-remove n p t.first t.first_in t.first_on, count-positive n (but p t.first) t.second t.second_in (but-from p t.first t.second t.second_on (λ e. t.differ (sym e))))

-- where no more than two count, any other that passes is one of the two
pub third-of : (n : ℕ) (p : ℕ → Bool) → count n p ≤ 2 → (t : Two n p) → (x : ℕ) → x < n → p x ≡ true → (x ≡ t.first) ⊎ (x ≡ t.second)
third-of n p c t x l h = elim (cases_eq x t.first) [
  | inl e ↦ inl e
  | inr m ↦ elim (cases_eq x t.second) [
    | inl e ↦ inr e
    | inr k ↦
        let two : 2 ≤ count n (but p t.first) = two-count n (but p t.first) (record {
          first = t.second;
          second = x;
          differ = λ e. k (sym e);
          first_in = t.second_in;
          second_in = l;
          first_on = but-from p t.first t.second t.second_on (λ e. t.differ (sym e));
          second_on = but-from p t.first x h m;
        }) in
        absurd (omega (arith, two, c, count-remove n p t.first t.first_in t.first_on))
  ]
]

-- where at most one counts, those that pass are equal
pub one-only : (n : ℕ) (p : ℕ → Bool) → count n p ≤ 1 → (x y : ℕ) → x < n → y < n → p x ≡ true → p y ≡ true → x ≡ y
one-only n p c x y l k h i = elim (cases_eq x y) [
  | inl e ↦ e
  | inr m ↦ absurd (omega (arith, c, two-count n p (record { first = x; second = y; differ = m; first_in = l; second_in = k; first_on = h; second_on = i })))
]

-- where those that pass are among two numbers, no more than two count
pub two-most : (n : ℕ) (p : ℕ → Bool) (a b : ℕ) → ((x : ℕ) → x < n → p x ≡ true → (x ≡ a) ⊎ (x ≡ b)) → count n p ≤ 2
two-most n p a b only = elim (cases_lt 2 (count n p)) [
  | inr l ↦ l
  | inl l ↦
      let x = one-of n p (omega (arith, l)) in
      let y = two-of n (but p x.0) (omega (arith, l, count-remove n p x.0 x.1 x.2)) in
      let u = but-parts p x.0 y.first y.first_on in
      let v = but-parts p x.0 y.second y.second_on in
      absurd (three x.0 y.first y.second (λ e. u.1 (sym e)) (λ e. v.1 (sym e)) y.differ (only x.0 x.1 x.2) (only y.first y.first_in u.0) (only y.second y.second_in v.0))
]
  where
    three : (x y z : ℕ) → x ≢ y → x ≢ z → y ≢ z → (x ≡ a) ⊎ (x ≡ b) → (y ≡ a) ⊎ (y ≡ b) → (z ≡ a) ⊎ (z ≡ b) → ⊥
    three x y z xy xz yz h i j = grind (arith, xy, xz, yz, h, i, j)

-- a test as a number
abbrev pub bit : Bool → ℕ
bit b = cond b 1 0

-- a count that is number by number the sum of three others
pub count-three_parts : (n : ℕ) (p a b c : ℕ → Bool) → ((x : ℕ) → x < n → bit (p x) ≡ bit (a x) + bit (b x) + bit (c x)) → count n p ≡ count n a + count n b + count n c
count-three_parts n p a b c h = omega (
  arith,
  count-sum n p,
  count-sum n a,
  count-sum n b,
  count-sum n c,
  sum_below-ext n (λ x. bit (p x)) (λ x. (bit (a x) + bit (b x)) + bit (c x)) h,
  sum_below-add n (λ x. bit (a x) + bit (b x)) (λ x. bit (c x)),
  sum_below-add n (λ x. bit (a x)) (λ x. bit (b x)),
)

-- of three or more numbers two are not this one
pub two-others : (n h : ℕ) → 3 ≤ n → (i j : ℕ) × (i < n) × (j < n) × (i ≢ j) × (i ≢ h) × (j ≢ h)
two-others n zero l = (1, 2, omega (arith, l), omega (arith, l), λ e. omega (arith, e), λ e. omega (arith, e), λ e. omega (arith, e))
two-others n (suc zero) l = (0, 2, omega (arith, l), omega (arith, l), λ e. omega (arith, e), λ e. omega (arith, e), λ e. omega (arith, e))
two-others n (suc (suc h)) l = (0, 1, omega (arith, l), omega (arith, l), λ e. omega (arith, e), λ e. omega (arith, e), λ e. omega (arith, e))

-- of three or more numbers one is not among two given ones
pub third-other : (n a b : ℕ) → 3 ≤ n → (r : ℕ) × (r < n) × (r ≢ a) × (r ≢ b)
third-other n a b l =
    let w = two-others n a l in
    elim (cases_eq w.0 b) [ inr m ↦ (w.0, w.2, w.5, m) | inl e ↦ (w.1, w.3, w.6, λ f. w.4 (e ∙ sym f)) ]
