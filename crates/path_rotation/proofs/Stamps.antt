-- Stamps on labels.
use Rattle.std.proofs.Common.{◌≡◌, ◌∙◌, ℕ, ◌+◌, ◌<◌, inl, inr, true, List, length, slice_index, sym, ap, subst, arith}
use Rattle.std.proofs.Math.ListN.{set}
use Rattle.std.proofs.lemmas.Bool.{cases_eq}
use Rattle.std.proofs.lemmas.List.{get_or-set_same, get_or-set_other}
use Rattle.permutations.specs.Members.{is_member}
use Rattle.permutations.proofs.Places.{place-of}

-- one more place stamped, where f leads
pub stamp-more : (f : ℕ → ℕ) (passed : List ℕ) (i stamp : ℕ) → f i < length passed → ((j : ℕ) → j < i → slice_index passed (f j) ≡ stamp) → (j : ℕ) → j < i + 1 → slice_index (set passed (f i) stamp) (f j) ≡ stamp
stamp-more f passed i stamp w h j l = elim (cases_eq (f j) (f i)) [
  | inl e ↦ subst (λ (z : ℕ). slice_index (set passed (f i) stamp) z ≡ stamp) (sym e) (get_or-set_same passed (f i) stamp 0 w)
  | inr n ↦ get_or-set_other passed (f i) (f j) stamp 0 n ∙ elim (cases_eq j i) [
    | inl e ↦ absurd (n (ap f e))
    | inr m ↦ h j (omega (arith, l, m))
  ]
]

-- what holds at each place of a list holds of its members
pub at-members : (l : List ℕ) (P : ℕ → Type 0) → ((j : ℕ) → j < length l → P (slice_index l j)) → (x : ℕ) → is_member x l ≡ true → P x
at-members l P h x m = let w = place-of l x m in subst P w.2 (h w.0 w.1)
