-- The entry for a vertex, found at the place that is reached there.
use Rattle.std.proofs.Common.{◌≡◌, ◌≢◌, ℕ, zero, suc, ◌<◌, eqb, List, [], ◌∷◌, length, refl, ◌∙◌, subst, inl, inr, arith, le_refl}
use Rattle.std.proofs.lemmas.Bool.{cases_eq, cases_lt, eq-eqb, ne_eqb, cond-true, cond-false}
use Rattle.rotations.specs.Entries.{entry, IsRising, IsReachedAt, list_at}

-- the list at the first entry for v
list_at-first : (given : ℕ × List ℕ) (others : List (ℕ × List ℕ)) (v : ℕ) → given.0 ≡ v → list_at (given ∷ others) v ≡ given.1
list_at-first given others v e = cond-true (eqb given.0 v) given.1 (list_at others v) (eq-eqb given.0 v e)

list_at-later : (given : ℕ × List ℕ) (others : List (ℕ × List ℕ)) (v : ℕ) → given.0 ≢ v → list_at (given ∷ others) v ≡ list_at others v
list_at-later given others v n = cond-false (eqb given.0 v) given.1 (list_at others v) (ne_eqb given.0 v n)

-- where no entry before place k is for v, and the one at k is, its list is the one given for v
pub list_at-found : (l : List (ℕ × List ℕ)) (v k : ℕ) → k < length l → ((i : ℕ) → i < k → (entry l i).0 ≢ v) → (entry l k).0 ≡ v → list_at l v ≡ (entry l k).1
list_at-found [] v k m others e = absurd (omega arith)
list_at-found (given ∷ l) v zero m others e = list_at-first given l v e
list_at-found (given ∷ l) v (suc k) m others e =
    list_at-later given l v (others 0 (omega arith)) ∙ list_at-found l v k (omega arith) (λ i h. others (suc i) (omega arith)) e

-- where no entry is for v, the list is empty
pub list_at-none : (l : List (ℕ × List ℕ)) (v : ℕ) → ((i : ℕ) → i < length l → (entry l i).0 ≢ v) → list_at l v ≡ []
list_at-none [] v others = refl
list_at-none (given ∷ l) v others = list_at-later given l v (others 0 (omega arith)) ∙ list_at-none l v (λ i h. others (suc i) (omega arith))

-- the entry at the place reached is for v
pub reached-list : (l : List (ℕ × List ℕ)) (k v : ℕ) → IsReachedAt l k v → k < length l → (entry l k).0 ≡ v → list_at l v ≡ (entry l k).1
reached-list l k v r m e = list_at-found l v k m (λ i h same. omega (arith, r.smaller i h)) e

-- it is for a larger vertex, or there is none
pub reached-no_list : (l : List (ℕ × List ℕ)) (k v : ℕ) → IsRising l → IsReachedAt l k v → (k < length l → (entry l k).0 ≢ v) → list_at l v ≡ []
reached-no_list l k v rising r other = list_at-none l v (λ i m same. apart i m same)
  where
    apart : (i : ℕ) → i < length l → (entry l i).0 ≡ v → ⊥
    apart i m same = elim (cases_eq i k) [
      | inl e ↦ other (omega arith) (subst (λ (j : ℕ). (entry l j).0 ≡ v) e same)
      | inr n ↦ elim (cases_lt i k) [
        | inl before ↦ omega (arith, r.smaller i before)
        | inr behind ↦ omega (arith, rising k i (omega arith) m, r.others k (le_refl k) (omega arith))
      ]
    ]
