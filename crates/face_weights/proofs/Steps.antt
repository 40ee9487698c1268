-- The steps of the loops: lists of one number, and the greatest of others.
use Rattle.std.proofs.Common.{◌≡◌, ◌≢◌, ℕ, zero, suc, ◌<◌, ◌≤◌, ◌⊎◌, List, length, replicate, slice_index_or, slice_set, inl, inr, refl, sym, ap, ◌∙◌, subst, arith}
use Rattle.std.proofs.lemmas.List.{get_or-set_same, get_or-set_other, length-replicate}
use Rattle.std.proofs.lemmas.Bool.{cases_eq}
use Rattle.face_weights.specs.Rests.{IsOtherMost}

-- a list of one number
pub zeros : (n k z : ℕ) → slice_index_or (replicate n z) k z ≡ z
zeros zero k z = refl
zeros (suc n) zero z = refl
zeros (suc n) (suc k) z = zeros n k z

-- the greatest of others is reached, also where all are zero
pub other-reached : (n : ℕ) (w : ℕ → ℕ) (place most : ℕ) → 2 ≤ n → ((j : ℕ) → j < n → j ≢ place → w j ≤ most) → (most ≡ 0) ⊎ ((j : ℕ) × (j < n) × (j ≢ place) × (w j ≡ most)) → IsOtherMost n w place most
other-reached n w place most l b r = record { reached = found r; bounds = b }
  where
    found : (most ≡ 0) ⊎ ((j : ℕ) × (j < n) × (j ≢ place) × (w j ≡ most)) → (h : ℕ) × (h < n) × (h ≢ place) × (w h ≡ most)
    found (inr x) = x
    found (inl z) = elim (cases_eq place 0) [
      | inl e ↦ (1, omega (arith, l), λ q. omega (arith, q, e), let c : w 1 ≤ most = b 1 (omega (arith, l)) (λ q. omega (arith, q, e)) in omega (arith, c, z))
      | inr f ↦ (0, omega (arith, l), λ q. f (sym q), let c : w 0 ≤ most = b 0 (omega (arith, l)) (λ q. f (sym q)) in omega (arith, c, z))
    ]

-- the same of the loop's numbers
pub other-found : (n i : ℕ) (w : ℕ → ℕ) (place most : ℕ) → 2 ≤ n → n ≤ i → i ≤ n → ((j : ℕ) → j < i → j ≢ place → w j ≤ most) → (most ≡ 0) ⊎ ((j : ℕ) × (j < i) × (j ≢ place) × (w j ≡ most)) → IsOtherMost n w place most
other-found n i w place most l a c b r = other-reached n w place most l (λ j m. b j (omega (arith, m, a))) (elim r [ inl z ↦ inl z | inr x ↦ inr (x.0, omega (arith, x.1, c), x.2, x.3) ])

-- a number of a list of one number
at-each : (n i z : ℕ) → i < n → slice_index_or (replicate n z) i 0 ≡ z
at-each zero i z l = absurd (omega (arith, l))
at-each (suc n) zero z l = refl
at-each (suc n) (suc i) z l = at-each n i z (omega (arith, l))

-- the greatest for all but its place, where the greatest of the others is
pub pair-rest : (n : ℕ) (w : ℕ → ℕ) (place second i : ℕ) (list : List ℕ) → list ≡ replicate n (w place) → place < n → ((h : ℕ) → h < n → w h ≤ w place) → IsOtherMost n w place second → i < n → IsOtherMost n w i (slice_index_or (slice_set list place second) i 0)
pair-rest n w place second i list e l most other m = elim (cases_eq i place) [
  | inl q ↦ subst (λ z. IsOtherMost n w z (slice_index_or (slice_set list place second) z 0)) (sym q)
      (subst (IsOtherMost n w place) (sym (get_or-set_same list place second 0 (subst (λ (z : List ℕ). place < length z) (sym e) (omega (arith, l, length-replicate n (w place)))))) other)
  | inr d ↦ subst (IsOtherMost n w i) (sym (get_or-set_other list place i second 0 d ∙ ap (λ (z : List ℕ). slice_index_or z i 0) e ∙ at-each n i (w place) m))
      (record { reached = (place, l, λ q. d (sym q), refl); bounds = λ h a b. most h a })
]
