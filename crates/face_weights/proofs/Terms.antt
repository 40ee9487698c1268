-- Sums over numbers: two terms of one, sums over darts and over edges, sums that differ at one place, and how many pass a test.
use Rattle.std.proofs.Common.{◌≡◌, ◌≢◌, ℕ, zero, suc, ◌+◌, ◌*◌, ◌<◌, ◌≤◌, Bool, true, false, not, inl, inr, refl, ap, ◌∙◌, arith}
use Rattle.std.proofs.lemmas.Bool.{cases_Bool, cases_lt}
use Rattle.permutations.specs.Count.{count, sum_below}
use Rattle.permutations.proofs.Sums.{sum_below-add, sum_below-le, sum_below-term, sum_below-const, count-exchange}

-- the sum over the darts of m edges
pub sum-pairs : (f : ℕ → ℕ) (m n : ℕ) → n ≡ 2 * m → sum_below n f ≡ sum_below m (λ i. f (2 * i) + f (2 * i + 1))
sum-pairs f zero zero e = refl
sum-pairs f zero (suc n) e = absurd (omega (arith, e))
sum-pairs f (suc m) zero e = absurd (omega (arith, e))
sum-pairs f (suc m) (suc zero) e = absurd (omega (arith, e))
sum-pairs f (suc m) (suc (suc n)) e =
    let before : sum_below n f ≡ sum_below m (λ i. f (2 * i) + f (2 * i + 1)) = sum-pairs f m n (omega (arith, e)) in
    let one : n ≡ 2 * m = omega (arith, e) in
    let two : suc n ≡ 2 * m + 1 = omega (arith, e) in
    omega (arith, before, ap f one, ap f two)

-- two terms
pub two-terms : (n : ℕ) (f : ℕ → ℕ) (i h : ℕ) → i < n → h < n → h ≢ i → f i + f h ≤ sum_below n f
two-terms zero f i h a b d = absurd (omega (arith, a))
two-terms (suc n) f i h a b d = elim (cases_lt i n) [
  | inl x ↦ elim (cases_lt h n) [
    | inl y ↦ omega (arith, two-terms n f i h x y d)
    | inr y ↦ let e : h ≡ n = omega (arith, b, y) in omega (arith, sum_below-term n f i x, ap f e)
  ]
  | inr x ↦ let e : i ≡ n = omega (arith, a, x) in
      let y : h < n = omega (arith, b, e, d) in omega (arith, sum_below-term n f h y, ap f e)
]

-- twice each term
pub sum-twice : (n : ℕ) (f : ℕ → ℕ) → sum_below n (λ i. f i + f i) ≡ 2 * sum_below n f
sum-twice n f = let e : sum_below n (λ i. f i + f i) ≡ sum_below n f + sum_below n f = sum_below-add n f f in omega (arith, e)

-- terms that are bounded but for one
pub sum-but_one : (n : ℕ) (f b : ℕ → ℕ) (h : ℕ) → h < n → ((i : ℕ) → i < n → i ≢ h → f i ≤ b i) → sum_below n f + b h ≤ sum_below n b + f h
sum-but_one zero f b h l s = absurd (omega (arith, l))
sum-but_one (suc n) f b h l s = elim (cases_lt h n) [
  | inl x ↦
      let before : sum_below n f + b h ≤ sum_below n b + f h = sum-but_one n f b h x (λ i y d. s i (omega (arith, y)) d) in
      let last : f n ≤ b n = s n (omega arith) (λ e. omega (arith, x, e)) in
      omega (arith, before, last)
  | inr x ↦
      let e : h ≡ n = omega (arith, l, x) in
      let before : sum_below n f ≤ sum_below n b = sum_below-le n f b (λ i y. s i (omega (arith, y)) (λ q. omega (arith, y, q, e))) in
      omega (arith, before, ap f e, ap b e)
]

-- no more than one passes
pub count-once : (n : ℕ) (p : ℕ → Bool) → ((x y : ℕ) → x < n → y < n → p x ≡ true → p y ≡ true → x ≡ y) → count n p ≤ 1
count-once zero p o = omega arith
count-once (suc n) p o = elim (cases_Bool (p n)) [
  | inl t ↦ let z : count n p ≡ 0 = none n (λ x l q. absurd (omega (arith, l, o x n (omega (arith, l)) (omega arith) q t))) in rw t (omega (arith, z))
  | inr t ↦ let b : count n p ≤ 1 = count-once n p (λ x y l m. o x y (omega (arith, l)) (omega (arith, m))) in rw t (omega (arith, b))
]
  where
    none : (k : ℕ) → ((x : ℕ) → x < k → p x ≡ true → ⊥) → count k p ≡ 0
    none zero s = refl
    none (suc k) s = elim (cases_Bool (p k)) [
      | inl t ↦ absurd (s k (omega arith) t)
      | inr t ↦ let z : count k p ≡ 0 = none k (λ x l. s x (omega (arith, l))) in rw t (omega (arith, z))
    ]

-- a test and its opposite
pub count-opposite : (n : ℕ) (p q : ℕ → Bool) → ((x : ℕ) → x < n → p x ≡ not (q x)) → count n p + count n q ≡ n
count-opposite zero p q o = refl
count-opposite (suc n) p q o =
    let before : count n p + count n q ≡ n = count-opposite n p q (λ x l. o x (omega (arith, l))) in
    elim (cases_Bool (q n)) [
      | inl t ↦ let f : p n ≡ false = o n (omega arith) ∙ ap not t in rw (t, f) (omega (arith, before))
      | inr t ↦ let f : p n ≡ true = o n (omega arith) ∙ ap not t in rw (t, f) (omega (arith, before))
    ]

-- tests no two of which a number passes
pub count-apart : (n m : ℕ) (p : ℕ → ℕ → Bool) → ((e i h : ℕ) → e < n → i < m → h < m → p i e ≡ true → p h e ≡ true → i ≡ h) → sum_below m (λ i. count n (p i)) ≤ n
count-apart n m p o =
    let a : sum_below m (λ i. count n (p i)) ≡ sum_below n (λ e. count m (λ i. p i e)) = count-exchange m n p in
    let b : sum_below n (λ e. count m (λ i. p i e)) ≤ sum_below n (λ e. 1) = sum_below-le n (λ e. count m (λ i. p i e)) (λ e. 1) (λ e l. count-once m (λ i. p i e) (λ i h x y. o e i h l x y)) in
    let c : sum_below n (λ e. 1) ≡ n * 1 = sum_below-const n 1 in
    omega (arith, a, b, c)
