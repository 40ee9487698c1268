-- Arrangements of a list: they have its members, and no repetition where it has none.
use Rattle.std.proofs.Common.{◌≡◌, ℕ, ◌+◌, ◌≤◌, Bool, true, false, cond, eqb, List, [], ◌∷◌, ◌++◌, length, refl, sym, ap, ◌∙◌, subst, inl, inr, arith, length-append}
use Rattle.std.specs.List.{sum_by}
use Rattle.std.specs.List.Sorted.{IsPermutation}
use Rattle.std.proofs.lemmas.List.Sorted.{IsPermutation-refl, IsPermutation-sym, IsPermutation-trans, IsPermutation-cons, IsPermutation-middle, Contains-permutation, sum_by-IsPermutation}
use Rattle.std.proofs.lemmas.List.Sums.{sum_by-cons}
use Rattle.std.proofs.lemmas.Bool.{cases_Bool, eq-eqb, eqb-true, both_ways, true≢false, false_from_ne_true}
use Rattle.permutations.specs.Members.{is_member, is_distinct}
use Rattle.permutations.proofs.Members.{member-head, member-tail, member-cases, no_member-head, no_member-tail, cut_at, distinct-head, distinct-tail, distinct-cons, member-append_left, member-append_right, member-append_cases}
use Rattle.permutations.proofs.Arrangements.{contains-from_member}
use Rattle.rotations.proofs.Membership.{member-from_contains}

-- an arrangement has the members of the list
pub permutation-member : (xs ys : List ℕ) (x : ℕ) → IsPermutation xs ys → is_member x xs ≡ true → is_member x ys ≡ true
permutation-member xs ys x p m = member-from_contains ys x (Contains-permutation xs ys x p (contains-from_member xs x m))

-- and no others
pub permutation-member_back : (xs ys : List ℕ) (x : ℕ) → IsPermutation xs ys → is_member x ys ≡ true → is_member x xs ≡ true
permutation-member_back xs ys x p m = permutation-member ys xs x (IsPermutation-sym xs ys p) m

-- how often x stands in a list
abbrev times : ℕ → List ℕ → ℕ
times x xs = sum_by (λ y. cond (eqb y x) 1 0) xs

times-cons : (x y : ℕ) (xs : List ℕ) → times x (y ∷ xs) ≡ cond (eqb y x) 1 0 + times x xs
times-cons x y xs = sum_by-cons (λ z. cond (eqb z x) 1 0) y xs

times-here : (x y : ℕ) (xs : List ℕ) → y ≡ x → times x (y ∷ xs) ≡ 1 + times x xs
times-here x y xs e = times-cons x y xs ∙ ap (λ (b : Bool). cond b 1 0 + times x xs) (eq-eqb y x e)

times-other : (x y : ℕ) (xs : List ℕ) → eqb y x ≡ false → times x (y ∷ xs) ≡ times x xs
times-other x y xs e = let step : cond (eqb y x) 1 0 + times x xs ≡ 0 + times x xs = ap (λ (b : Bool). cond b 1 0 + times x xs) e in omega (arith, times-cons x y xs)

times-least : (x y : ℕ) (xs : List ℕ) → times x xs ≤ times x (y ∷ xs)
times-least x y xs = omega (arith, times-cons x y xs)

-- a member stands there
times-member : (x : ℕ) (xs : List ℕ) → is_member x xs ≡ true → 1 ≤ times x xs
times-member x [] m = absurd (true≢false (sym m))
times-member x (y ∷ xs) m = elim (member-cases x y xs m) [
  | inl e ↦ omega (arith, times-here x y xs e)
  | inr t ↦ omega (arith, times-least x y xs, times-member x xs t)
]

-- who is no member stands there never
times-no_member : (x : ℕ) (xs : List ℕ) → is_member x xs ≡ false → times x xs ≡ 0
times-no_member x [] n = refl
times-no_member x (y ∷ xs) n = elim (cases_Bool (eqb y x)) [
  | inl e ↦ absurd (no_member-head x y xs n (eqb-true y x e))
  | inr e ↦ omega (arith, times-other x y xs e, times-no_member x xs (no_member-tail x y xs n))
]

-- where there is no repetition, each number stands at most once
times-distinct : (x : ℕ) (xs : List ℕ) → is_distinct xs ≡ true → times x xs ≤ 1
times-distinct x [] d = omega arith
times-distinct x (y ∷ xs) d = elim (cases_Bool (eqb y x)) [
  | inl e ↦ omega (arith, times-here x y xs (eqb-true y x e), times-no_member x xs (subst (λ (z : ℕ). is_member z xs ≡ false) (eqb-true y x e) (distinct-head y xs d)))
  | inr e ↦ omega (arith, times-other x y xs e, times-distinct x xs (distinct-tail y xs d))
]

-- where each number stands at most once, there is no repetition
distinct-from_times : (xs : List ℕ) → ((x : ℕ) → times x xs ≤ 1) → is_distinct xs ≡ true
distinct-from_times [] h = refl
distinct-from_times (y ∷ xs) h =
    distinct-cons y xs
    (false_from_ne_true (is_member y xs) (λ m. absurd (omega (arith, h y, times-here y y xs refl, times-member y xs m))))
    (distinct-from_times xs (λ x. omega (arith, h x, times-least x y xs)))

-- an arrangement of a list without repetition has none
pub permutation-distinct : (xs ys : List ℕ) → IsPermutation xs ys → is_distinct xs ≡ true → is_distinct ys ≡ true
permutation-distinct xs ys p d = distinct-from_times ys (λ x. omega (arith, sum_by-IsPermutation (λ y. cond (eqb y x) 1 0) xs ys p, times-distinct x xs d))

-- a list without repetition, as long as another and with members of it alone, is an arrangement of it
pub permutation-from_members : (ys xs : List ℕ) → is_distinct ys ≡ true → ((x : ℕ) → is_member x ys ≡ true → is_member x xs ≡ true) → length ys ≡ length xs → IsPermutation xs ys
permutation-from_members [] [] d m l = IsPermutation-refl []
permutation-from_members [] (x ∷ xs) d m l = absurd (omega arith)
permutation-from_members (y ∷ ys) xs d m l =
    let cut = cut_at y xs (m y (member-head y ys)) in
    subst (λ (l : List ℕ). IsPermutation l (y ∷ ys)) (sym cut.is)
    (IsPermutation-trans (cut.front ++ y ∷ cut.back) (y ∷ (cut.front ++ cut.back)) (y ∷ ys)
    (IsPermutation-middle cut.front y cut.back)
    (IsPermutation-cons y (cut.front ++ cut.back) ys
    (permutation-from_members ys (cut.front ++ cut.back) (distinct-tail y ys d) (rest cut.front cut.back cut.is)
    (omega (arith, ap length cut.is, length-append cut.front (y ∷ cut.back), length-append cut.front cut.back)))))
  where
    rest : (front back : List ℕ) → xs ≡ front ++ y ∷ back → (x : ℕ) → is_member x ys ≡ true → is_member x (front ++ back) ≡ true
    rest front back is x mx = elim (member-append_cases x front (y ∷ back) (subst (λ (l : List ℕ). is_member x l ≡ true) is (m x (member-tail x y ys mx)))) [
      | inl a ↦ member-append_left x front back a
      | inr b ↦ elim (member-cases x y back b) [
        | inl e ↦ absurd (both_ways (is_member y ys) (distinct-head y ys d) (subst (λ (z : ℕ). is_member z ys ≡ true) (sym e) mx))
        | inr t ↦ member-append_right x front back t
      ]
    ]
