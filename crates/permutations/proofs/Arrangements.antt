-- Lists without repetition with the same members are arrangements of each other; membership in std's words; counting by a list.
use Rattle.std.proofs.Common.{◌≡◌, ℕ, zero, suc, ◌+◌, ◌<◌, ◌≤◌, inl, inr, Bool, true, false, cond, not, ◌&&◌, ◌||◌, ◌==◌, List, [], ◌∷◌, ◌++◌, length, sum_by, get_or, refl, sym, ap, ◌∙◌, subst, arith, IsPermutation, Contains, All}
use Rattle.std.proofs.lemmas.Bool.{cases_Bool, cases_eq, both_ways, true≢false, false_from_ne_true, eq-eqb, ne_eqb, true_from_ne_false}
use Rattle.std.proofs.lemmas.List.Sums.{sum_by-cons}
use Rattle.std.proofs.lemmas.List.Sorted.{sum_by-IsPermutation, IsPermutation-refl, IsPermutation-cons, IsPermutation-middle, IsPermutation-sym, IsPermutation-trans, length_permutation, IsPermutation-to_front}
use Rattle.std.proofs.lemmas.List.Elements.{All-contains}
use Rattle.permutations.specs.Count.{count}
use Rattle.permutations.specs.Members.{is_member, is_distinct}
use Rattle.permutations.proofs.Count.{count-none, count-remove}
use Rattle.permutations.proofs.Relation.{same-tests}
use Rattle.permutations.proofs.Members.{member-head, member-tail, member-cases, no_member-head, no_member-tail, distinct-head, distinct-tail, distinct-cons, CutAt, cut_at}

-- how often x stands in the list
abbrev occurrences : ℕ → List ℕ → ℕ
occurrences x l = sum_by (λ y. cond (y == x) 1 0) l

-- one for true
abbrev one : Bool → ℕ
one b = cond b 1 0

-- a member stands in the list at least once
member-occurs : (x : ℕ) (l : List ℕ) → is_member x l ≡ true → 0 < occurrences x l
member-occurs x [] h = absurd (true≢false (sym h))
member-occurs x (y ∷ l) h = elim (cases_Bool (y == x)) [
  | inl e ↦ let s : occurrences x (y ∷ l) ≡ 1 + occurrences x l = sum_by-cons (λ z. cond (z == x) 1 0) y l ∙ ap (λ (b : Bool). cond b 1 0 + occurrences x l) e in omega arith
  | inr n ↦
      let s : occurrences x (y ∷ l) ≡ 0 + occurrences x l = sum_by-cons (λ z. cond (z == x) 1 0) y l ∙ ap (λ (b : Bool). cond b 1 0 + occurrences x l) n in
      let m : is_member x l ≡ true = grind arith in
      omega (arith, member-occurs x l m)
]

-- who is no member does not stand in the list
absent-occurs : (x : ℕ) (l : List ℕ) → is_member x l ≡ false → occurrences x l ≡ 0
absent-occurs x [] h = refl
absent-occurs x (y ∷ l) h = omega (arith, sum_by-cons (λ z. cond (z == x) 1 0) y l, ap one (ne_eqb y x (no_member-head x y l h)), absent-occurs x l (no_member-tail x y l h))

-- in a list without repetition no number stands more than once
distinct-occurs : (x : ℕ) (l : List ℕ) → is_distinct l ≡ true → occurrences x l ≤ 1
distinct-occurs x [] h = omega arith
distinct-occurs x (y ∷ l) h = elim (cases_eq y x) [
  | inl e ↦ omega (arith, sum_by-cons (λ z. cond (z == x) 1 0) y l, ap one (eq-eqb y x e), absent-occurs x l (subst (λ (z : ℕ). is_member z l ≡ false) e (distinct-head y l h)))
  | inr n ↦ omega (arith, sum_by-cons (λ z. cond (z == x) 1 0) y l, ap one (ne_eqb y x n), distinct-occurs x l (distinct-tail y l h))
]

-- a list in which no number stands more than once has no repetition
occurs-distinct : (l : List ℕ) → ((x : ℕ) → occurrences x l ≤ 1) → is_distinct l ≡ true
occurs-distinct [] h = refl
occurs-distinct (y ∷ l) h = distinct-cons y l
    (false_from_ne_true (is_member y l) (λ m. absurd (omega (arith, h y, sum_by-cons (λ z. cond (z == y) 1 0) y l, ap one (eq-eqb y y refl), member-occurs y l m))))
    (occurs-distinct l (λ x. omega (arith, h x, sum_by-cons (λ z. cond (z == x) 1 0) y l)))

-- a list in another order has the same members
pub permutation-member : (l k : List ℕ) (x : ℕ) → IsPermutation l k → is_member x k ≡ is_member x l
permutation-member l k x p = same-tests (is_member x k) (is_member x l)
    (λ h. true_from_ne_false (is_member x l) (λ f. absurd (omega (arith, sum_by-IsPermutation (λ y. cond (y == x) 1 0) l k p, member-occurs x k h, absent-occurs x l f))))
    (λ h. true_from_ne_false (is_member x k) (λ f. absurd (omega (arith, sum_by-IsPermutation (λ y. cond (y == x) 1 0) l k p, member-occurs x l h, absent-occurs x k f))))

-- a list without repetition has none in another order
pub permutation-distinct : (l k : List ℕ) → IsPermutation l k → is_distinct l ≡ true → is_distinct k ≡ true
permutation-distinct l k p h = occurs-distinct k (λ x. omega (arith, sum_by-IsPermutation (λ y. cond (y == x) 1 0) l k p, distinct-occurs x l h))

-- a member at a cut stands in front of the others
pub member-middle : (z x : ℕ) (a b : List ℕ) → is_member z (a ++ x ∷ b) ≡ ((x == z) || is_member z (a ++ b))
member-middle z x [] b = refl
member-middle z x (y ∷ a) b = grind (arith, member-middle z x a b, cases_Bool (y == z), cases_Bool (x == z))

-- without the member at the cut a list has no repetition, and not that member
pub distinct-middle : (x : ℕ) (a b : List ℕ) → is_distinct (a ++ x ∷ b) ≡ true → is_distinct (x ∷ (a ++ b)) ≡ true
distinct-middle x a b h = permutation-distinct (a ++ x ∷ b) (x ∷ (a ++ b)) (IsPermutation-middle a x b) h

-- two lists without repetition with the same members are one list in two orders
pub permutation-from_members : (l k : List ℕ) → is_distinct l ≡ true → is_distinct k ≡ true → ((z : ℕ) → is_member z l ≡ is_member z k) → IsPermutation l k
permutation-from_members [] [] h g m = IsPermutation-refl []
permutation-from_members [] (y ∷ k) h g m = absurd (both_ways (is_member y (y ∷ k)) (sym (m y)) (member-head y k))
permutation-from_members (x ∷ l) k h g m = at (cut_at x k (sym (m x) ∙ member-head x l)) (permutation-from_members l)
  where
    at : CutAt x k → ((r : List ℕ) → is_distinct l ≡ true → is_distinct r ≡ true → ((z : ℕ) → is_member z l ≡ is_member z r) → IsPermutation l r) → IsPermutation (x ∷ l) k
    at c rest = subst (IsPermutation (x ∷ l)) (sym c.is) (IsPermutation-trans (x ∷ l) (x ∷ (c.front ++ c.back)) (c.front ++ x ∷ c.back)
        (IsPermutation-cons x l (c.front ++ c.back) (rest (c.front ++ c.back) (distinct-tail x l h) (distinct-tail x (c.front ++ c.back) d) same))
        (IsPermutation-sym (c.front ++ x ∷ c.back) (x ∷ (c.front ++ c.back)) (IsPermutation-middle c.front x c.back)))
      where
        d : is_distinct (x ∷ (c.front ++ c.back)) ≡ true
        d = distinct-middle x c.front c.back (subst (λ (z : List ℕ). is_distinct z ≡ true) c.is g)

        joined : (z : ℕ) → ((x == z) || is_member z l) ≡ ((x == z) || is_member z (c.front ++ c.back))
        joined z = m z ∙ ap (is_member z) c.is ∙ member-middle z x c.front c.back

        same : (z : ℕ) → is_member z l ≡ is_member z (c.front ++ c.back)
        same z = elim (cases_eq x z) [
          | inl e ↦ subst (λ (v : ℕ). is_member v l ≡ is_member v (c.front ++ c.back)) e (distinct-head x l h ∙ sym (distinct-head x (c.front ++ c.back) d))
          | inr n ↦ let f : (x == z) ≡ false = ne_eqb x z n in rw f at (joined z)
        ]

-- two lists without repetition with the same members are equally long
pub length-from_members : (l k : List ℕ) → is_distinct l ≡ true → is_distinct k ≡ true → ((z : ℕ) → is_member z l ≡ is_member z k) → length l ≡ length k
length-from_members l k h g m = sym (length_permutation l k (permutation-from_members l k h g m))

-- a member stands at some place
pub contains-from_member : (l : List ℕ) (x : ℕ) → is_member x l ≡ true → Contains l x
contains-from_member [] x h = absurd (true≢false (sym h))
contains-from_member (y ∷ l) x h = elim (member-cases x y l h) [
  | inl e ↦ (0, omega arith, e)
  | inr m ↦ let w : Contains l x = contains-from_member l x m in (suc w.0, omega (arith, w.1), w.2)
]

-- what stands at a place is a member
pub member-at : (l : List ℕ) (i d : ℕ) → i < length l → is_member (get_or l i d) l ≡ true
member-at [] i d h = absurd (omega arith)
member-at (y ∷ l) zero d h = member-head y l
member-at (y ∷ l) (suc i) d h = member-tail (get_or l i d) y l (member-at l i d (omega arith))

-- what a list contains is a member
pub member-from_contains : (l : List ℕ) (x : ℕ) → Contains l x → is_member x l ≡ true
member-from_contains l x c = subst (λ (z : ℕ). is_member z l ≡ true) c.2 (member-at l c.0 x c.1)

-- what holds of each element holds of a member
pub all-member : (P : ℕ → Type 0) (l : List ℕ) (x : ℕ) → All P l → is_member x l ≡ true → P x
all-member P l x a h = All-contains P l x a (contains-from_member l x h)

-- neither test changes the answer
still : (a : Bool) → ((false || a) && not false) ≡ a
still a = grind (arith, cases_Bool a)

-- the number of those that pass is the length of the list of them
pub count-list : (n : ℕ) (p : ℕ → Bool) (l : List ℕ) → is_distinct l ≡ true → ((x : ℕ) → is_member x l ≡ true → x < n) → ((x : ℕ) → x < n → p x ≡ is_member x l) → count n p ≡ length l
count-list n p [] h b m = count-none n p m
count-list n p (x ∷ l) h b m = omega (
  arith,
  count-remove n p x (b x (member-head x l)) (m x (b x (member-head x l)) ∙ member-head x l),
  count-list n (λ z. p z && not (z == x)) l (distinct-tail x l h) (λ z k. b z (member-tail z x l k)) rest,
)
  where
    rest : (z : ℕ) → z < n → (p z && not (z == x)) ≡ is_member z l
    rest z k = elim (cases_eq z x) [
      | inl e ↦ rw (eq-eqb z x e) (at z e)
      | inr ne ↦ let f : (x == z) ≡ false = ne_eqb x z (λ e. ne (sym e)) in rw (ne_eqb z x ne, m z k, f) (still (is_member z l))
    ]
      where
        at : (z : ℕ) → z ≡ x → (p z && false) ≡ is_member z l
        at z e = grind (arith, cases_Bool (p z), subst (λ (v : ℕ). is_member v l ≡ false) (sym e) (distinct-head x l h))

-- three numbers in their other cyclic order
pub three-turned : (a b c : ℕ) → IsPermutation (a ∷ b ∷ c ∷ []) (a ∷ c ∷ b ∷ [])
three-turned a b c = IsPermutation-cons a (b ∷ c ∷ []) (c ∷ b ∷ []) (IsPermutation-to_front (b ∷ []) c)
