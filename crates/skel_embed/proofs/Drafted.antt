-- Choices changed by moves are written from their least keys on again.
use Rattle.std.proofs.Common.{◌≡◌, ℕ, ◌<◌, inl, inr, true, List, [], length, reverse, slice_index_or, slice_set, sym, subst, IsPermutation}
use Rattle.std.proofs.lemmas.Bool.{cases_eq}
use Rattle.std.proofs.lemmas.List.{length-set, get_or-set_same, get_or-set_other}
use Rattle.permutations.specs.Cyclic.{from_least}
use Rattle.permutations.specs.Members.{is_distinct}
use Rattle.permutations.proofs.Arrangements.{permutation-distinct}
use Rattle.permutations.proofs.Members.{distinct-reverse}
use Rattle.permutations.proofs.NormalForm.{from_least-distinct, from_least-twice}
use Rattle.skel_embed.specs.Exchanges.{turned_choice, AreWritten}

module _ (lists : List (List ℕ)) (k : ℕ) (h : k < length lists) (a : AreWritten lists) where
  -- with a cyclic order in the place of a choice
  put-written : (y : List ℕ) → is_distinct y ≡ true → AreWritten (slice_set lists k (from_least y))
  put-written y d j l = elim (cases_eq j k) [
    | inl e ↦ subst (λ i. (is_distinct (slice_index_or (slice_set lists k (from_least y)) i []) ≡ true) × (from_least (slice_index_or (slice_set lists k (from_least y)) i []) ≡ slice_index_or (slice_set lists k (from_least y)) i [])) (sym e)
        (subst (λ (z : List ℕ). (is_distinct z ≡ true) × (from_least z ≡ z)) (sym (get_or-set_same lists k (from_least y) [] h)) (from_least-distinct y d, from_least-twice y d))
    | inr n ↦ subst (λ (z : List ℕ). (is_distinct z ≡ true) × (from_least z ≡ z)) (sym (get_or-set_other lists k j (from_least y) [] n)) (a j (subst (λ m. j < m) (length-set lists k (from_least y)) l))
  ]

  -- a choice reversed
  pub turned-written : AreWritten (slice_set lists k (turned_choice (slice_index_or lists k [])))
  turned-written = put-written (reverse (slice_index_or lists k [])) (distinct-reverse (slice_index_or lists k []) (a k h).0)

  -- a choice in another order
  pub ordered-written : (order : List ℕ) → IsPermutation (slice_index_or lists k []) order → AreWritten (slice_set lists k (from_least order))
  ordered-written order p = put-written order (permutation-distinct (slice_index_or lists k []) order p (a k h).0)
