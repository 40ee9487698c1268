-- Taking numbers out one after the other.
use Rattle.std.proofs.Common.{◌≡◌, ℕ, zero, suc, ◌<◌, ◌≤◌, inl, inr, Bool, true, false, refl, sym, ◌∙◌, subst, arith}
use Rattle.std.proofs.lemmas.Bool.{cases_Bool, cases_eq, both_ways}
use Rattle.permutations.specs.Permutation.{Permutes, same_orbit}
use Rattle.permutations.specs.Exchange.{unlink, taken_out}
use Rattle.permutations.proofs.Unlinking.{unlink-alone, unlink-cases, unlink-permutes, unlink-orbit}

-- the step where the test fails
pub taken-out-one : (keep : ℕ → Bool) (k : ℕ) (f : ℕ → ℕ) → keep k ≡ false → taken_out keep (suc k) f ≡ unlink k (taken_out keep k f)
taken-out-one keep k f h = rw h refl

-- the step where the test passes
pub taken-out-none : (keep : ℕ → Bool) (k : ℕ) (f : ℕ → ℕ) → keep k ≡ true → taken_out keep (suc k) f ≡ taken_out keep k f
taken-out-none keep k f h = rw h refl

-- with numbers taken out it is a permutation
pub taken-out-permutes : (n : ℕ) (keep : ℕ → Bool) (f g : ℕ → ℕ) → Permutes n f g → (k : ℕ) → k ≤ n → Permutes n (taken_out keep k f) (taken_out keep k g)
taken-out-permutes n keep f g b zero l = b
taken-out-permutes n keep f g b (suc k) l = let c : Permutes n (taken_out keep k f) (taken_out keep k g) = taken-out-permutes n keep f g b k (omega arith) in elim (cases_Bool (keep k)) [
  | inl t ↦ rw t c
  | inr u ↦ rw u (unlink-permutes n k (taken_out keep k f) (taken_out keep k g) c l)
]

-- what taking out one number keeps, taking out several keeps
pub taken-out-keeps : (n : ℕ) (keep : ℕ → Bool) (P : (ℕ → ℕ) → Type 0) → ((f g : ℕ → ℕ) → Permutes n f g → (d : ℕ) → d < n → keep d ≡ false → P f → P (unlink d f)) → (f g : ℕ → ℕ) → Permutes n f g → P f → (k : ℕ) → k ≤ n → P (taken_out keep k f)
taken-out-keeps n keep P step f g b p zero l = p
taken-out-keeps n keep P step f g b p (suc k) l = let q : P (taken_out keep k f) = taken-out-keeps n keep P step f g b p k (omega arith) in elim (cases_Bool (keep k)) [
  | inl t ↦ rw t q
  | inr u ↦ rw u (step (taken_out keep k f) (taken_out keep k g) (taken-out-permutes n keep f g b k (omega arith)) k l u q)
]

-- a number that is alone stays so
pub unlink-alone-stays : (n d : ℕ) (f g : ℕ → ℕ) → Permutes n f g → d < n → (x : ℕ) → f x ≡ x → unlink d f x ≡ x
unlink-alone-stays n d f g b l x e = elim (unlink-cases d f x) [
  | inl h ↦ h.1 ∙ sym (h.0)
  | inr r ↦ elim r [
    | inl h ↦ absurd (h.0 (sym e ∙ h.1))
    | inr h ↦ h.2 ∙ e
  ]
]

-- the numbers taken out are alone
pub taken-out-alone : (n : ℕ) (keep : ℕ → Bool) (f g : ℕ → ℕ) → Permutes n f g → (k : ℕ) → k ≤ n → (x : ℕ) → x < k → keep x ≡ false → taken_out keep k f x ≡ x
taken-out-alone n keep f g b zero l x j i = absurd (omega arith)
taken-out-alone n keep f g b (suc k) l x j i = elim (cases_Bool (keep k)) [
  | inl t ↦ subst (λ (h : ℕ → ℕ). h x ≡ x) (sym (taken-out-none keep k f t)) (elim (cases_eq x k) [
    | inl e ↦ absurd (both_ways (keep k) (subst (λ (z : ℕ). keep z ≡ false) e i) t)
    | inr a ↦ taken-out-alone n keep f g b k (omega arith) x (omega arith) i
  ])
  | inr u ↦ subst (λ (h : ℕ → ℕ). h x ≡ x) (sym (taken-out-one keep k f u)) (elim (cases_eq x k) [
    | inl e ↦ rw e (unlink-alone k (taken_out keep k f))
    | inr a ↦ unlink-alone-stays n k (taken_out keep k f) (taken_out keep k g) (taken-out-permutes n keep f g b k (omega arith)) l x (taken-out-alone n keep f g b k (omega arith) x (omega arith) i)
  ])
]

-- the orbits are the old ones without the numbers taken out
pub taken-out-orbit : (n : ℕ) (keep : ℕ → Bool) (f g : ℕ → ℕ) → Permutes n f g → (x y : ℕ) → keep x ≡ true → keep y ≡ true → (k : ℕ) → k ≤ n → same_orbit n (taken_out keep k f) x y ≡ same_orbit n f x y
taken-out-orbit n keep f g b x y s t = taken-out-keeps n keep (λ h. same_orbit n h x y ≡ same_orbit n f x y)
    (λ h i c d l u p. unlink-orbit n d h i c l x y (λ e. both_ways (keep d) u (subst (λ (z : ℕ). keep z ≡ true) e s)) (λ e. both_ways (keep d) u (subst (λ (z : ℕ). keep z ≡ true) e t)) ∙ p)
    f g b refl
