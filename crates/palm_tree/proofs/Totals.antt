-- Sums of which a term changes.
use Rattle.std.proofs.Common.{◌≡◌, ◌≢◌, ℕ, zero, suc, ◌+◌, ◌<◌, ◌≤◌, inl, inr, Bool, true, false, cond, sym, ap, arith}
use Rattle.std.proofs.lemmas.Bool.{cases_eq}
use Rattle.permutations.specs.Count.{sum_below}
use Rattle.permutations.proofs.Sums.{sum_below-ext, sum_below-term}

-- where two functions agree but at v, their sums differ as they do there
pub sum-change : (n : ℕ) (f h : ℕ → ℕ) (v : ℕ) → v < n → ((c : ℕ) → c < n → c ≢ v → f c ≡ h c) → sum_below n h + f v ≡ sum_below n f + h v
sum-change zero f h v l e = absurd (omega arith)
sum-change (suc n) f h v l e = elim (cases_eq v n) [
  | inl q ↦ omega (arith, sum_below-ext n f h (λ c m. e c (omega arith) (λ r. absurd (omega arith))), ap f q, ap h q)
  | inr d ↦ omega (arith, sum-change n f h v (omega arith) (λ c m. e c (omega arith)), e n (omega arith) (λ r. d (sym r)))
]

-- two terms are no more than the sum
pub sum-two : (n : ℕ) (f : ℕ → ℕ) (u v : ℕ) → u < n → v < n → u ≢ v → f u + f v ≤ sum_below n f
sum-two zero f u v l m d = absurd (omega arith)
sum-two (suc n) f u v l m d = elim (cases_eq u n) [
  | inl q ↦ let w : v < n = omega arith in omega (arith, ap f q, sum_below-term n f v w)
  | inr a ↦ elim (cases_eq v n) [
    | inl q ↦ let w : u < n = omega arith in omega (arith, ap f q, sum_below-term n f u w)
    | inr b ↦ omega (arith, sum-two n f u v (omega arith) (omega arith) d)
  ]
]

-- the two cases of a choice
pub cond-yes : (b : Bool) (x y : ℕ) → b ≡ true → cond b x y ≡ x
cond-yes b x y e = ap (λ (z : Bool). cond z x y) e

pub cond-no : (b : Bool) (x y : ℕ) → b ≡ false → cond b x y ≡ y
cond-no b x y e = ap (λ (z : Bool). cond z x y) e
