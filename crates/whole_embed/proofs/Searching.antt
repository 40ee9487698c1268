-- Numbers found in increasing lists, and increasing lists made.
use Rattle.std.proofs.Common.{◌≡◌, ℕ, ◌+◌, ◌<◌, ◌≤◌, inl, inr, Bool, true, false, cond, List, [], ◌∷◌, ◌++◌, length, filter, get_or, None, Ok, Err, refl, sym, ap, ◌∙◌, subst, arith}
use Rattle.std.specs.List.Sorted.{IsBinarySearchResult}
use Rattle.std.specs.Ordering.{nat_cmp}
use Rattle.std.proofs.lemmas.Bool.{cases_Bool, cases_eq, cond-true, cond-false, false_from_ne_true}
use Rattle.std.proofs.lemmas.List.Sorted.{searched}
use Rattle.permutations.specs.Members.{is_member, place_of}
use Rattle.permutations.proofs.Arrangements.{member-at}
use Rattle.permutations.proofs.Places.{place-below, place-holds}
use Rattle.multigraph.specs.Graph.{numbers_below}
use Rattle.multigraph.specs.Part.{Rises, IsPlace}
use Rattle.multigraph.proofs.Below.{filter_below-yes, filter_below-no}
use Rattle.multigraph.proofs.Places.{rises-once, place-missed}

-- along an increasing list no number falls
rises-weak : (l : List ℕ) → Rises l → (i j : ℕ) → i ≤ j → j < length l → get_or l i 0 ≤ get_or l j 0
rises-weak l r i j le lt = elim (cases_eq i j) [
  | inl e ↦ omega (arith, ap (λ (k : ℕ). get_or l k 0) e)
  | inr n ↦ omega (arith, r i j (omega (arith, le, n)) lt)
]

-- a search that ends at the number found its place
pub found-place : (l : List ℕ) (x i : ℕ) → Rises l → IsBinarySearchResult (λ y. nat_cmp y x) l (Ok i) → (is_member x l ≡ true) × (i ≡ place_of l x)
found-place l x i r h =
    let s = searched l x (Ok i) h (rises-weak l r) in
    let m : is_member x l ≡ true = subst (λ (z : ℕ). is_member z l ≡ true) s.1 (member-at l i 0 s.0) in
    (m, rises-once l r i (place_of l x) s.0 (place-below l x m) (s.1 ∙ sym (place-holds l x m)))

-- one that ends elsewhere shows that it is no member
pub missed-place : (l : List ℕ) (x i : ℕ) → Rises l → IsBinarySearchResult (λ y. nat_cmp y x) l (Err i) → is_member x l ≡ false
missed-place l x i r h =
    let p : IsPlace l x None = place-missed l x i r h in
    false_from_ne_true (is_member x l) (λ m. p.none.0 refl (place_of l x) (place-below l x m) (place-holds l x m))

-- one number more that passes or fails a test, by what a push gave
pub noted-number : (p : ℕ → Bool) (n : ℕ) (old new : List ℕ) (wanted : Bool) → old ≡ filter p (numbers_below n) → wanted ≡ p n → new ≡ cond wanted (old ++ n ∷ []) old → new ≡ filter p (numbers_below (n + 1))
noted-number p n old new wanted e w h = h ∙ (ap (λ (z : List ℕ). cond wanted (z ++ n ∷ []) z) e ∙ (ap (λ (b : Bool). cond b (filter p (numbers_below n) ++ n ∷ []) (filter p (numbers_below n))) w ∙ (elim (cases_Bool (p n)) [
  | inl t ↦ cond-true (p n) (filter p (numbers_below n) ++ n ∷ []) (filter p (numbers_below n)) t ∙ sym (filter_below-yes p n t)
  | inr f ↦ cond-false (p n) (filter p (numbers_below n) ++ n ∷ []) (filter p (numbers_below n)) f ∙ sym (filter_below-no p n f)
])))
