-- Lists that are orderings of increasing numbers, and their cyclic orders from the least number on.
use Rattle.std.proofs.Common.{◌≡◌, ◌≢◌, ℕ, ◌<◌, ◌≤◌, true, None, Some, List, [], ◌∷◌, get_or, refl, sym, ap, ◌∙◌, subst, arith, IsPermutation}
use Rattle.std.specs.List.{slice_get}
use Rattle.std.specs.List.Sorted.{IsSorted}
use Rattle.std.specs.Ordering.{nat_cmp}
use Rattle.std.proofs.lemmas.List.Sorted.{IsPermutation-sym, IsPermutation-trans, IsNonDecreasingBy-from_sort, length_permutation}
use Rattle.permutations.specs.Members.{is_member, is_distinct}
use Rattle.permutations.specs.Cyclic.{from_least, turned}
use Rattle.permutations.proofs.Members.{member-head, member-tail}
use Rattle.permutations.proofs.Arrangements.{permutation-member, permutation-distinct}
use Rattle.permutations.proofs.Places.{places-differ}
use Rattle.permutations.proofs.NormalForm.{least-same, least-first_member}
use Rattle.multigraph.specs.Part.{Rises}
use Rattle.graph_theory.proofs.Rising.{members-same}
use Rattle.whole_embed.proofs.Outer.{rises-distinct, first-least}
use Rattle.whole_embed.proofs.FrameFacts.{first-split, first-none}

-- different numbers sorted increase
sorted-rises : (sorted : List ℕ) → is_distinct sorted ≡ true → IsSorted nat_cmp sorted → Rises sorted
sorted-rises sorted d s i j w b = strict (IsNonDecreasingBy-from_sort (λ x. x) sorted s i j 0 (omega arith) b) (places-differ sorted i j d w b)
  where
    strict : get_or sorted i 0 ≤ get_or sorted j 0 → get_or sorted i 0 ≢ get_or sorted j 0 → get_or sorted i 0 < get_or sorted j 0
    strict a n = omega arith

-- a list is an ordering of increasing numbers where it is these when sorted
pub sorted-ordering : (at edges sorted : List ℕ) → IsPermutation edges sorted → sorted ≡ at → IsPermutation at edges
sorted-ordering at edges sorted p e = subst (λ (l : List ℕ). IsPermutation l edges) e (IsPermutation-sym edges sorted p)

-- and only there
pub ordering-sorted : (at edges sorted : List ℕ) → Rises at → IsPermutation edges sorted → IsSorted nat_cmp sorted → IsPermutation at edges → sorted ≡ at
ordering-sorted at edges sorted r p s q =
    let a : IsPermutation at sorted = IsPermutation-trans at edges sorted q p in
    members-same sorted at (sorted-rises sorted (permutation-distinct at sorted a (rises-distinct at r)) s) r
    (λ x m. sym (permutation-member at sorted x a) ∙ m) (λ x m. permutation-member at sorted x a ∙ m)

-- turned to the first of the numbers it is written from its least on
pub turned-least : (first : ℕ) (at edges : List ℕ) → Rises (first ∷ at) → IsPermutation (first ∷ at) edges → turned edges first ≡ from_least edges
turned-least first at edges r p = ap (turned edges) (sym (least-same edges (first ∷ at) (λ z. permutation-member (first ∷ at) edges z p) ∙ least-first_member first at (λ z m. first-least (first ∷ at) z r (member-tail z first at m))))

-- the first of them is in it
pub first-in : (first : ℕ) (at edges : List ℕ) → IsPermutation (first ∷ at) edges → is_member first edges ≡ true
first-in first at edges p = permutation-member (first ∷ at) edges first p ∙ member-head first at

-- an ordering of nothing is empty, and is its own cyclic order
pub none-least : (edges : List ℕ) → IsPermutation [] edges → edges ≡ from_least edges
none-least [] p = refl
none-least (x ∷ edges) p = absurd (omega (arith, length_permutation [] (x ∷ edges) p))

-- an ordering has the first of the numbers
pub ordering-first : (at edges : List ℕ) (first : ℕ) → slice_get at 0 ≡ Some first → IsPermutation at edges → is_member first edges ≡ true
ordering-first at edges first h p = let w = first-split at first h in first-in first w.0 edges (subst (λ (l : List ℕ). IsPermutation l edges) w.1 p)

-- turned to it, it is written from its least number on
pub ordering-turned : (at edges : List ℕ) (first : ℕ) → Rises at → slice_get at 0 ≡ Some first → IsPermutation at edges → turned edges first ≡ from_least edges
ordering-turned at edges first r h p = let w = first-split at first h in turned-least first w.0 edges (subst Rises w.1 r) (subst (λ (l : List ℕ). IsPermutation l edges) w.1 p)

-- so is an ordering of nothing
pub ordering-none : (at edges : List ℕ) → slice_get at 0 ≡ None → IsPermutation at edges → edges ≡ from_least edges
ordering-none at edges h p = none-least edges (subst (λ (l : List ℕ). IsPermutation l edges) (first-none at h) p)
