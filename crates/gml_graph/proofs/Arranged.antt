-- The test of arrangements is exact.
use Rattle.std.proofs.Common.{◌≡◌, ℕ, Bool, true, false, ◌&&◌, List, [], ◌∷◌, length, eqb, refl, sym, subst, inl, inr, arith}
use Rattle.std.specs.List.{list_all}
use Rattle.std.specs.List.Sorted.{IsPermutation}
use Rattle.std.proofs.lemmas.Bool.{eq-eqb, eqb-true, true≢false}
use Rattle.std.proofs.lemmas.List.Sorted.{length_permutation}
use Rattle.permutations.specs.Members.{is_member, is_distinct}
use Rattle.permutations.proofs.Members.{member-head, member-tail, member-cases}
use Rattle.rotations.proofs.Arrangements.{permutation-distinct, permutation-member_back, permutation-from_members}
use Rattle.gml_graph.specs.Arranged.{is_arrangement}

-- both of two tests
both-true : (a b : Bool) → a ≡ true → b ≡ true → (a && b) ≡ true
both-true a b p q = grind arith

first-true : (a b : Bool) → (a && b) ≡ true → a ≡ true
first-true true b h = refl
first-true false b h = h

second-true : (a b : Bool) → (a && b) ≡ true → b ≡ true
second-true true b h = h
second-true false b h = absurd (true≢false (sym h))

-- what holds of all members holds of each
all-at : (p : ℕ → Bool) (xs : List ℕ) (x : ℕ) → list_all p xs ≡ true → is_member x xs ≡ true → p x ≡ true
all-at p [] x a m = absurd (true≢false (sym m))
all-at p (y ∷ ys) x a m = elim (member-cases x y ys m) [
  | inl e ↦ subst (λ (z : ℕ). p z ≡ true) e (first-true (p y) (list_all p ys) a)
  | inr t ↦ all-at p ys x (second-true (p y) (list_all p ys) a) t
]

all-from : (p : ℕ → Bool) (xs : List ℕ) → ((x : ℕ) → is_member x xs ≡ true → p x ≡ true) → list_all p xs ≡ true
all-from p [] h = refl
all-from p (y ∷ ys) h = both-true (p y) (list_all p ys) (h y (member-head y ys)) (all-from p ys (λ x m. h x (member-tail x y ys m)))

-- a permutation passes
pub arranged-passes : (edges list : List ℕ) → is_distinct edges ≡ true → IsPermutation edges list → is_arrangement edges list ≡ true
arranged-passes edges list d p =
    both-true _ _ (both-true _ _ (permutation-distinct edges list p d) (all-from (λ e. is_member e edges) list (λ x m. permutation-member_back edges list x p m)))
    (eq-eqb (length list) (length edges) (length_permutation edges list p))

-- what passes is one
pub passes-arranged : (edges list : List ℕ) → is_arrangement edges list ≡ true → IsPermutation edges list
passes-arranged edges list t =
    let front = first-true (is_distinct list && list_all (λ e. is_member e edges) list) (eqb (length list) (length edges)) t in
    let long = second-true (is_distinct list && list_all (λ e. is_member e edges) list) (eqb (length list) (length edges)) t in
    permutation-from_members list edges (first-true (is_distinct list) (list_all (λ e. is_member e edges) list) front)
    (λ x m. all-at (λ e. is_member e edges) list x (second-true (is_distinct list) (list_all (λ e. is_member e edges) list) front) m)
    (eqb-true (length list) (length edges) long)
