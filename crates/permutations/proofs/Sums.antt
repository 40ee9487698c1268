-- Sums over the numbers below a bound, and counts as sums.
use Rattle.std.proofs.Common.{◌≡◌, ℕ, zero, suc, ◌+◌, ◌*◌, ◌<◌, ◌≤◌, inl, inr, Bool, cond, refl, sym, ap, ◌∙◌, arith}
use Rattle.std.proofs.lemmas.Bool.{cases_Bool, cases_eq}
use Rattle.permutations.specs.Count.{count, sum_below}

-- functions that agree below n have one sum
pub sum_below-ext : (n : ℕ) (f g : ℕ → ℕ) → ((x : ℕ) → x < n → f x ≡ g x) → sum_below n f ≡ sum_below n g
sum_below-ext zero f g h = refl
sum_below-ext (suc n) f g h = rw (sum_below-ext n f g (λ x l. h x (omega arith)), h n (omega arith)) refl

-- the sum of sums of two functions
pub sum_below-add : (n : ℕ) (f g : ℕ → ℕ) → sum_below n (λ x. f x + g x) ≡ sum_below n f + sum_below n g
sum_below-add zero f g = refl
sum_below-add (suc n) f g = omega (arith, sum_below-add n f g)

-- greater terms have a greater sum
pub sum_below-le : (n : ℕ) (f g : ℕ → ℕ) → ((x : ℕ) → x < n → f x ≤ g x) → sum_below n f ≤ sum_below n g
sum_below-le zero f g h = omega arith
sum_below-le (suc n) f g h = omega (arith, sum_below-le n f g (λ x l. h x (omega arith)), h n (omega arith))

-- the sum of zeros
pub sum_below-zero : (n : ℕ) → sum_below n (λ x. 0) ≡ 0
sum_below-zero zero = refl
sum_below-zero (suc n) = omega (arith, sum_below-zero n)

-- a sum of equal terms
pub sum_below-const : (n k : ℕ) → sum_below n (λ x. k) ≡ n * k
sum_below-const zero k = omega arith
sum_below-const (suc n) k = omega (arith, sum_below-const n k)

-- terms that are no less than others, in a sum that is no greater, are equal to them
pub sum_below-same : (n : ℕ) (f g : ℕ → ℕ) → ((x : ℕ) → x < n → f x ≤ g x) → sum_below n g ≤ sum_below n f → (x : ℕ) → x < n → f x ≡ g x
sum_below-same zero f g h c x l = absurd (omega arith)
sum_below-same (suc n) f g h c x l = elim (cases_eq x n) [
  | inl e ↦ let t : f n ≡ g n = omega (arith, sum_below-le n f g (λ y k. h y (omega arith)), h n (omega arith)) in ap f e ∙ t ∙ ap g (sym e)
  | inr ne ↦ sum_below-same n f g (λ y k. h y (omega arith)) (omega (arith, sum_below-le n f g (λ y k. h y (omega arith)), h n (omega arith))) x (omega arith)
]

-- a term is no greater than the sum
pub sum_below-term : (n : ℕ) (f : ℕ → ℕ) (x : ℕ) → x < n → f x ≤ sum_below n f
sum_below-term zero f x l = absurd (omega arith)
sum_below-term (suc n) f x l = elim (cases_eq x n) [ inl e ↦ omega (arith, ap f e) | inr ne ↦ omega (arith, sum_below-term n f x (omega arith)) ]

-- a count is a sum of ones
pub count-sum : (n : ℕ) (p : ℕ → Bool) → count n p ≡ sum_below n (λ x. cond (p x) 1 0)
count-sum zero p = refl
count-sum (suc n) p = grind (arith, count-sum n p, cases_Bool (p n))

-- as many times k as numbers pass
pub sum_below-times : (n : ℕ) (p : ℕ → Bool) (k : ℕ) → sum_below n (λ x. cond (p x) k 0) ≡ k * count n p
sum_below-times zero p k = omega arith
sum_below-times (suc n) p k = elim (cases_Bool (p n)) [ inl e ↦ rw e (omega (arith, sum_below-times n p k)) | inr e ↦ rw e (omega (arith, sum_below-times n p k)) ]

-- sums over the rows and over the columns of a table are equal
pub sum_below-exchange : (n m : ℕ) (f : ℕ → ℕ → ℕ) → sum_below n (λ x. sum_below m (f x)) ≡ sum_below m (λ y. sum_below n (λ x. f x y))
sum_below-exchange zero m f = sym (sum_below-zero m)
sum_below-exchange (suc n) m f = omega (arith, sum_below-exchange n m f, sum_below-add m (λ y. sum_below n (λ x. f x y)) (f n))

-- counting the places of a table by rows and by columns
pub count-exchange : (n m : ℕ) (f : ℕ → ℕ → Bool) → sum_below n (λ x. count m (f x)) ≡ sum_below m (λ y. count n (λ x. f x y))
count-exchange n m f =
    sum_below-ext n (λ x. count m (f x)) (λ x. sum_below m (λ y. cond (f x y) 1 0)) (λ x l. count-sum m (f x))
    ∙ sum_below-exchange n m (λ x y. cond (f x y) 1 0)
    ∙ sum_below-ext m (λ y. sum_below n (λ x. cond (f x y) 1 0)) (λ y. count n (λ x. f x y)) (λ y l. sym (count-sum n (λ x. f x y)))
