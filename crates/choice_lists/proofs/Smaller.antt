-- How many members of a list are smaller than a number; rising lists of numbers as sets.
use Rattle.std.proofs.Common.{◌≡◌, ℕ, suc, ◌+◌, ◌<◌, ◌≤◌, inl, inr, Bool, true, false, cond, nat_lt, List, [], ◌∷◌, ◌++◌, length, IsPermutation, refl, sym, ap, ◌∙◌, subst, arith}
use Rattle.std.proofs.lemmas.Bool.{lt-ltb, le-ltb, ltb-true, false_from_ne_true, true≢false}
use Rattle.permutations.proofs.Relation.{same-tests}
use Rattle.std.proofs.lemmas.List.Sums.{sum_by-cons, sum_by-append, count_by-le-length}
use Rattle.std.proofs.lemmas.List.Sorted.{sum_by-IsPermutation}
use Rattle.permutations.specs.Members.{is_member, is_distinct}
use Rattle.permutations.proofs.Members.{member-tail, member-cases, distinct-head, distinct-tail, distinct-cons}
use Rattle.permutations.proofs.Arrangements.{permutation-member, permutation-distinct, permutation-from_members, contains-from_member, member-from_contains}
pub use Rattle.choice_lists.specs.Falling.{smaller}
use Rattle.choice_lists.proofs.Places.{At, Has, has-from, contains-from, Ascends}

-- one for true
abbrev one : Bool → ℕ
one b = cond b 1 0

-- a smaller one in front counts
pub smaller-yes : (x y : ℕ) (l : List ℕ) → y < x → smaller x (y ∷ l) ≡ 1 + smaller x l
smaller-yes x y l h = sum_by-cons (λ z. cond (nat_lt z x) 1 0) y l ∙ ap (λ z. one z + smaller x l) (lt-ltb y x h)

-- one that is not smaller doesn't
pub smaller-no : (x y : ℕ) (l : List ℕ) → x ≤ y → smaller x (y ∷ l) ≡ smaller x l
smaller-no x y l h =
    let e : smaller x (y ∷ l) ≡ 0 + smaller x l = sum_by-cons (λ z. cond (nat_lt z x) 1 0) y l ∙ ap (λ z. one z + smaller x l) (le-ltb y x h) in
    omega (arith, e)

-- of two lists joined
pub smaller-append : (x : ℕ) (l k : List ℕ) → smaller x (l ++ k) ≡ smaller x l + smaller x k
smaller-append x l k = sum_by-append (λ z. cond (nat_lt z x) 1 0) l k

-- in another order as many
pub smaller-permuted : (x : ℕ) (l k : List ℕ) → IsPermutation l k → smaller x k ≡ smaller x l
smaller-permuted x l k p = sum_by-IsPermutation (λ z. cond (nat_lt z x) 1 0) l k p

-- where none is smaller
pub smaller-none : (x : ℕ) (l : List ℕ) → ((i y : ℕ) → At l i y → x ≤ y) → smaller x l ≡ 0
smaller-none x [] h = refl
smaller-none x (y ∷ l) h = smaller-no x y l (h 0 y refl) ∙ smaller-none x l (λ i z a. h (suc i) z a)

-- where all are smaller
pub smaller-all : (x : ℕ) (l : List ℕ) → ((i y : ℕ) → At l i y → y < x) → smaller x l ≡ length l
smaller-all x [] h = refl
smaller-all x (y ∷ l) h = omega (arith, smaller-yes x y l (h 0 y refl), smaller-all x l (λ i z a. h (suc i) z a))

-- no more than all
pub smaller-bound : (x : ℕ) (l : List ℕ) → smaller x l ≤ length l
smaller-bound x l = count_by-le-length (λ y. nat_lt y x) l

-- members by place and by test
pub has-member : (l : List ℕ) (x : ℕ) → is_member x l ≡ true → Has l x
has-member l x m = has-from l x (contains-from_member l x m)

pub member-has : (l : List ℕ) (x : ℕ) → Has l x → is_member x l ≡ true
member-has l x h = member-from_contains l x (contains-from l x h)

-- a list in another order has the same members
pub has-permuted : (l k : List ℕ) (x : ℕ) → IsPermutation l k → Has k x → Has l x
has-permuted l k x p h = has-member l x (sym (permutation-member l k x p) ∙ member-has k x h)

-- a rising list has no repetition
pub ascends-distinct : (l : List ℕ) → Ascends nat_lt l → is_distinct l ≡ true
ascends-distinct [] a = refl
ascends-distinct (x ∷ l) a =
    distinct-cons x l (false_from_ne_true (is_member x l) (λ m. let h = has-member l x m in absurd (omega (arith, ltb-true x x (a.0 h.0 x h.1))))) (ascends-distinct l a.1)

-- two arrangements with one first member: the others are arrangements of each other
pub permutation-tail : (x : ℕ) (l k : List ℕ) → is_distinct (x ∷ l) ≡ true → IsPermutation (x ∷ l) (x ∷ k) → IsPermutation l k
permutation-tail x l k d p = permutation-from_members l k (distinct-tail x l d) (distinct-tail x k e) same
  where
    e : is_distinct (x ∷ k) ≡ true
    e = permutation-distinct (x ∷ l) (x ∷ k) p d

    over : (z : ℕ) → is_member z k ≡ true → is_member z l ≡ true
    over z m = elim (member-cases z x l (sym (permutation-member (x ∷ l) (x ∷ k) z p) ∙ member-tail z x k m)) [
      | inl s ↦ absurd (both (subst (λ v. is_member v k ≡ false) s (distinct-head x k e)) m)
      | inr s ↦ s
    ]
      where
        both : is_member z k ≡ false → is_member z k ≡ true → ⊥
        both f t = absurd (true≢false (sym t ∙ f))

    back : (z : ℕ) → is_member z l ≡ true → is_member z k ≡ true
    back z m = elim (member-cases z x k (permutation-member (x ∷ l) (x ∷ k) z p ∙ member-tail z x l m)) [
      | inl s ↦ absurd (both (subst (λ v. is_member v l ≡ false) s (distinct-head x l d)) m)
      | inr s ↦ s
    ]
      where
        both : is_member z l ≡ false → is_member z l ≡ true → ⊥
        both f t = absurd (true≢false (sym t ∙ f))

    same : (z : ℕ) → is_member z l ≡ is_member z k
    same z = same-tests (is_member z l) (is_member z k) (back z) (over z)
