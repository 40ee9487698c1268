-- A permutation turned over where a test holds: its orbits stay.
use Rattle.std.proofs.Common.{◌≡◌, ℕ, ◌<◌, inl, inr, Bool, true, false, cond, refl, sym, ap, ◌∙◌, subst}
use Rattle.std.proofs.lemmas.Bool.{cases_Bool}
use Rattle.permutations.specs.Relation.{IsEquivalence}
use Rattle.permutations.specs.Permutation.{Permutes, same_orbit}
use Rattle.permutations.proofs.Relation.{same-tests}
use Rattle.permutations.proofs.Permutations.{permutes-inverse}
use Rattle.permutations.proofs.Orbits.{orbit-least, orbit-equivalence, orbit-step}

-- a permutation of which each step keeps the test: the inverse keeps it too
pub back-keeps : (n : ℕ) (s r : ℕ → ℕ) → Permutes n s r → (t : ℕ → Bool) → ((d : ℕ) → d < n → t (s d) ≡ t d) → (d : ℕ) → d < n → t (r d) ≡ t d
back-keeps n s r b t h d l = sym (h (r d) (b.back d l)) ∙ ap t (b.forth_back d l)

-- s where the test fails and r where it holds
unfoldable pub turned_over : (ℕ → Bool) → (ℕ → ℕ) → (ℕ → ℕ) → ℕ → ℕ
turned_over t s r d = cond (t d) (r d) (s d)

-- outside
pub turned-outside : (t : ℕ → Bool) (s r : ℕ → ℕ) (d : ℕ) → t d ≡ false → turned_over t s r d ≡ s d
unfolding turned_over
turned-outside t s r d h = rw h refl

-- inside
pub turned-inside : (t : ℕ → Bool) (s r : ℕ → ℕ) (d : ℕ) → t d ≡ true → turned_over t s r d ≡ r d
unfolding turned_over
turned-inside t s r d h = rw h refl

-- a permutation, its inverse, and a test that its steps keep
module _ (n : ℕ) (s r : ℕ → ℕ) (b : Permutes n s r) (t : ℕ → Bool) (keep : (d : ℕ) → d < n → t (s d) ≡ t d) where
  -- the permutation turned over keeps the test
  pub turned-keeps : (d : ℕ) → d < n → t (turned_over t s r d) ≡ t d
  turned-keeps d l = elim (cases_Bool (t d)) [
    | inl h ↦ ap t (turned-inside t s r d h) ∙ back-keeps n s r b t keep d l
    | inr h ↦ ap t (turned-outside t s r d h) ∙ keep d l
  ]

  -- going there and back
  turned-back : (d : ℕ) → d < n → turned_over t r s (turned_over t s r d) ≡ d
  turned-back d l = elim (cases_Bool (t d)) [
    | inl h ↦ ap (turned_over t r s) (turned-inside t s r d h) ∙ turned-inside t r s (r d) (back-keeps n s r b t keep d l ∙ h) ∙ b.forth_back d l
    | inr h ↦ ap (turned_over t r s) (turned-outside t s r d h) ∙ turned-outside t r s (s d) (keep d l ∙ h) ∙ b.back_forth d l
  ]

  -- and staying below n
  turned-below : (d : ℕ) → d < n → turned_over t s r d < n
  turned-below d l = elim (cases_Bool (t d)) [
    | inl h ↦ subst (λ (z : ℕ). z < n) (sym (turned-inside t s r d h)) (b.back d l)
    | inr h ↦ subst (λ (z : ℕ). z < n) (sym (turned-outside t s r d h)) (b.forth d l)
  ]

  -- the orbits are the same
  turned-orbit-one : (x y : ℕ) → same_orbit n (turned_over t s r) x y ≡ true → same_orbit n s x y ≡ true
  turned-orbit-one = orbit-least n (turned_over t s r) (same_orbit n s) (orbit-equivalence n s) (λ d l. elim (cases_Bool (t d)) [
    | inl h ↦ subst (λ (z : ℕ). same_orbit n s d z ≡ true) (sym (turned-inside t s r d h)) ((orbit-equivalence n s).symmetric (r d) d (subst (λ (z : ℕ). same_orbit n s (r d) z ≡ true) (b.forth_back d l) (orbit-step n s (r d) (b.back d l))))
    | inr h ↦ subst (λ (z : ℕ). same_orbit n s d z ≡ true) (sym (turned-outside t s r d h)) (orbit-step n s d l)
  ])

-- the permutation turned over is one
pub turned-permutes : (n : ℕ) (s r : ℕ → ℕ) → Permutes n s r → (t : ℕ → Bool) → ((d : ℕ) → d < n → t (s d) ≡ t d) → Permutes n (turned_over t s r) (turned_over t r s)
turned-permutes n s r b t keep = record {
  forth = turned-below n s r b t keep;
  back = turned-below n r s (permutes-inverse n s r b) t (back-keeps n s r b t keep);
  back_forth = turned-back n s r b t keep;
  forth_back = turned-back n r s (permutes-inverse n s r b) t (back-keeps n s r b t keep);
}

-- its orbits are those of the permutation
pub turned-orbit : (n : ℕ) (s r : ℕ → ℕ) → Permutes n s r → (t : ℕ → Bool) → ((d : ℕ) → d < n → t (s d) ≡ t d) → (x y : ℕ) → same_orbit n (turned_over t s r) x y ≡ same_orbit n s x y
turned-orbit n s r b t keep x y = same-tests (same_orbit n (turned_over t s r) x y) (same_orbit n s x y) (turned-orbit-one n s r b t keep x y)
    (orbit-least n s (same_orbit n (turned_over t s r)) c (λ d l. elim (cases_Bool (t d)) [
      | inl h ↦ c.symmetric (s d) d (subst (λ (z : ℕ). same_orbit n (turned_over t s r) (s d) z ≡ true) (turned-inside t s r (s d) (keep d l ∙ h) ∙ b.back_forth d l) (orbit-step n (turned_over t s r) (s d) (b.forth d l)))
      | inr h ↦ subst (λ (z : ℕ). same_orbit n (turned_over t s r) d z ≡ true) (turned-outside t s r d h) (orbit-step n (turned_over t s r) d l)
    ]) x y)
  where
    c : IsEquivalence (same_orbit n (turned_over t s r))
    c = orbit-equivalence n (turned_over t s r)
