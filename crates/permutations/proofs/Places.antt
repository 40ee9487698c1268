-- The places of the members of a list: each member has one, and in a list without repetition only one.
use Rattle.std.proofs.Common.{◌≡◌, ◌≢◌, ℕ, zero, suc, ◌<◌, ◌==◌, inl, inr, true, List, [], ◌∷◌, length, get_or, refl, sym, ap, ◌∙◌, subst, arith}
use Rattle.std.proofs.lemmas.Bool.{both_ways, cases_Bool, eqb-true, false_from_ne_true, true≢false}
use Rattle.std.proofs.lemmas.List.{get_or_default}
use Rattle.permutations.specs.Members.{is_member, is_distinct, place_of}
use Rattle.permutations.specs.Cyclic.{first_or}
use Rattle.permutations.proofs.Members.{distinct-head, distinct-tail, distinct-cons}
use Rattle.permutations.proofs.Arrangements.{member-at, contains-from_member}

-- a member has a place
pub place-of : (l : List ℕ) (x : ℕ) → is_member x l ≡ true → (i : ℕ) × (i < length l) × (get_or l i 0 ≡ x)
place-of l x h = let c = contains-from_member l x h in (c.0, c.1, get_or_default l c.0 0 x c.1 ∙ c.2)

-- its first place is one of the list
pub place-below : (l : List ℕ) (x : ℕ) → is_member x l ≡ true → place_of l x < length l
place-below [] x m = absurd (true≢false (sym m))
place-below (y ∷ l) x m = elim (cases_Bool (y == x)) [
  | inl e ↦ rw e (omega arith)
  | inr n ↦ rw n (let t : is_member x l ≡ true = rw n at m in let i = place-below l x t in omega arith)
]

-- and the member stands there
pub place-holds : (l : List ℕ) (x : ℕ) → is_member x l ≡ true → get_or l (place_of l x) 0 ≡ x
place-holds [] x m = absurd (true≢false (sym m))
place-holds (y ∷ l) x m = elim (cases_Bool (y == x)) [
  | inl e ↦ rw e (eqb-true y x e)
  | inr n ↦ rw n (let t : is_member x l ≡ true = rw n at m in place-holds l x t)
]

-- places of a list without repetition that hold the same member are the same
pub same-place : (l : List ℕ) (i j : ℕ) → is_distinct l ≡ true → i < length l → j < length l → get_or l i 0 ≡ get_or l j 0 → i ≡ j
same-place [] i j d a b e = absurd (omega arith)
same-place (x ∷ l) zero zero d a b e = refl
same-place (x ∷ l) zero (suc j) d a b e = absurd (both_ways (is_member x l) (distinct-head x l d) (subst (λ (z : ℕ). is_member z l ≡ true) (sym e) (member-at l j 0 (omega arith))))
same-place (x ∷ l) (suc i) zero d a b e = absurd (both_ways (is_member x l) (distinct-head x l d) (subst (λ (z : ℕ). is_member z l ≡ true) e (member-at l i 0 (omega arith))))
same-place (x ∷ l) (suc i) (suc j) d a b e = ap suc (same-place l i j (distinct-tail x l d) (omega arith) (omega arith) e)

-- the place of what stands at place i of such a list
pub place-at : (l : List ℕ) (i : ℕ) → is_distinct l ≡ true → i < length l → place_of l (get_or l i 0) ≡ i
place-at l i d h =
    let m : is_member (get_or l i 0) l ≡ true = member-at l i 0 h in
    same-place l (place_of l (get_or l i 0)) i d (place-below l (get_or l i 0) m) h (place-holds l (get_or l i 0) m)

-- so two places in order hold different members
pub places-differ : (l : List ℕ) (i j : ℕ) → is_distinct l ≡ true → i < j → j < length l → get_or l i 0 ≢ get_or l j 0
places-differ l i j d w b e = absurd (omega (arith, same-place l i j d (omega arith) b e))

-- a list whose places are told by their members has no repetition
pub told-distinct : (l : List ℕ) → ((i j : ℕ) → i < length l → j < length l → get_or l i 0 ≡ get_or l j 0 → i ≡ j) → is_distinct l ≡ true
told-distinct [] h = refl
told-distinct (x ∷ l) h = distinct-cons x l
    (false_from_ne_true (is_member x l) (λ m. let w = place-of l x m in let bad : 0 ≡ suc w.0 = h 0 (suc w.0) (omega arith) (omega (arith, w.1)) (sym w.2) in omega arith))
    (told-distinct l (λ i j a b q. let up : suc i ≡ suc j = h (suc i) (suc j) (omega arith) (omega arith) q in omega arith))

-- the first member
pub first-at : (l : List ℕ) → get_or l 0 0 ≡ first_or 0 l
first-at [] = refl
first-at (x ∷ l) = refl
