-- The normal form of a cyclic order: the list from its least member on; and the normal form of its mirror.
use Rattle.std.proofs.Common.{◌≡◌, ℕ, ◌≤◌, min, inl, inr, true, false, List, [], ◌∷◌, reverse, refl, sym, ap, ◌∙◌, subst, arith}
use Rattle.std.proofs.lemmas.Bool.{cases_lt, both_ways, true≢false}
use Rattle.std.proofs.lemmas.List.{reverse-append, reverse-reverse}
use Rattle.permutations.specs.Members.{is_member, is_distinct}
use Rattle.permutations.specs.Cyclic.{first_or, least_or, from_least, successor, predecessor, turned, IsTurn}
use Rattle.permutations.proofs.Members.{member-head, member-tail, member-cases, member-reverse, distinct-head, distinct-reverse}
use Rattle.permutations.proofs.Turned.{turned-cut, turned-first, turned-turn, turned-first_or, turned-member, turned-distinct, turned-successor, turned-predecessor, IsTurn-sym, IsTurn-member, IsTurn-reverse}
use Rattle.permutations.proofs.CyclicSame.{IsTurn-trans, IsTurn-turned}

-- the least of x and a list is no greater than x
pub least_or-start : (x : ℕ) (l : List ℕ) → least_or x l ≤ x
least_or-start x [] = omega arith
least_or-start x (y ∷ l) = omega arith

-- the least of x and a list is no greater than a member
pub least_or-le : (x y : ℕ) (l : List ℕ) → is_member y l ≡ true → least_or x l ≤ y
least_or-le x y [] h = absurd (true≢false (sym h))
least_or-le x y (z ∷ l) h = elim (member-cases y z l h) [ inl e ↦ omega (arith, least_or-start z l) | inr m ↦ omega (arith, least_or-le z y l m) ]

-- the least of x and a list is x or a member
pub least_or-among : (x : ℕ) (l : List ℕ) → is_member (least_or x l) (x ∷ l) ≡ true
least_or-among x [] = member-head x []
least_or-among x (z ∷ l) = elim (cases_lt x (least_or z l)) [
  | inl a ↦ let e : min x (least_or z l) ≡ x = omega arith in subst (λ (v : ℕ). is_member v (x ∷ z ∷ l) ≡ true) (sym e) (member-head x (z ∷ l))
  | inr b ↦ let e : min x (least_or z l) ≡ least_or z l = omega arith in subst (λ (v : ℕ). is_member v (x ∷ z ∷ l) ≡ true) (sym e) (member-tail (least_or z l) x (z ∷ l) (least_or-among z l))
]

-- what is least in a list that is not empty is one of it
pub least-member : (l : List ℕ) (y : ℕ) → is_member y l ≡ true → is_member (least_or (first_or 0 l) l) l ≡ true
least-member [] y m = m
least-member (x ∷ l) y m = elim (member-cases (least_or x (x ∷ l)) x (x ∷ l) (least_or-among x (x ∷ l))) [
  | inl e ↦ subst (λ (v : ℕ). is_member v (x ∷ l) ≡ true) e (member-head x l)
  | inr t ↦ t
]

-- lists with the same members have the same least
pub least-same : (l k : List ℕ) → ((z : ℕ) → is_member z l ≡ is_member z k) → least_or (first_or 0 l) l ≡ least_or (first_or 0 k) k
least-same [] [] m = refl
least-same [] (y ∷ k) m = absurd (both_ways (is_member y (y ∷ k)) (sym (m y)) (member-head y k))
least-same (x ∷ l) [] m = absurd (both_ways (is_member x (x ∷ l)) (m x) (member-head x l))
least-same (x ∷ l) (y ∷ k) m =
    let a : least_or x (x ∷ l) ≤ least_or y (y ∷ k) = least_or-le x (least_or y (y ∷ k)) (x ∷ l) (m (least_or y (y ∷ k)) ∙ least-member (y ∷ k) y (member-head y k)) in
    let b : least_or y (y ∷ k) ≤ least_or x (x ∷ l) = least_or-le y (least_or x (x ∷ l)) (y ∷ k) (sym (m (least_or x (x ∷ l))) ∙ least-member (x ∷ l) x (member-head x l)) in
    omega arith

-- a first member that is no greater than the others is the least
pub least-first_member : (x : ℕ) (l : List ℕ) → ((z : ℕ) → is_member z l ≡ true → x ≤ z) → least_or (first_or 0 (x ∷ l)) (x ∷ l) ≡ x
least-first_member x l h = elim (member-cases (least_or x (x ∷ l)) x l (least-member (x ∷ l) x (member-head x l))) [
  | inl e ↦ sym e
  | inr m ↦ omega (arith, least_or-start x (x ∷ l), h (least_or x (x ∷ l)) m)
]

-- the normal form is a turn of the list
pub from_least-turn : (l : List ℕ) → IsTurn l (from_least l)
from_least-turn l = turned-turn l (least_or (first_or 0 l) l)

-- a list that begins with its least member is its normal form
pub from_least-first : (x : ℕ) (l : List ℕ) → ((z : ℕ) → is_member z l ≡ true → x ≤ z) → from_least (x ∷ l) ≡ x ∷ l
from_least-first x l h = ap (turned (x ∷ l)) (least-first_member x l h) ∙ turned-first x l

-- two turns of one list have one normal form
pub from_least-same : (l k : List ℕ) → IsTurn l k → is_distinct l ≡ true → from_least l ≡ from_least k
from_least-same [] k t h = empty k (λ z. IsTurn-member [] k z t)
  where
    empty : (k : List ℕ) → ((z : ℕ) → is_member z k ≡ false) → [] ≡ from_least k
    empty [] m = refl
    empty (y ∷ k) m = absurd (both_ways (is_member y (y ∷ k)) (m y) (member-head y k))
from_least-same (x ∷ l) k t h =
    IsTurn-turned (x ∷ l) k (least_or x (x ∷ l)) t h (least-member (x ∷ l) x (member-head x l))
    ∙ ap (turned k) (least-same (x ∷ l) k (λ z. sym (IsTurn-member (x ∷ l) k z t)))

-- lists with one normal form are turns of each other
pub same-from_least : (l k : List ℕ) → from_least l ≡ from_least k → IsTurn l k
same-from_least l k e = IsTurn-trans l (from_least k) k (subst (IsTurn l) e (from_least-turn l)) (IsTurn-sym k (from_least k) (from_least-turn k))

-- the normal form of the normal form
pub from_least-twice : (l : List ℕ) → is_distinct l ≡ true → from_least (from_least l) ≡ from_least l
from_least-twice l h = sym (from_least-same l (from_least l) (from_least-turn l) h)

-- the normal form begins with the least member
pub from_least-first_or : (l : List ℕ) (y : ℕ) → is_member y l ≡ true → first_or 0 (from_least l) ≡ least_or (first_or 0 l) l
from_least-first_or l y m = turned-first_or l (least_or (first_or 0 l) l) 0 (least-member l y m)

-- the normal form has the same members
pub from_least-member : (l : List ℕ) (x : ℕ) → is_member x (from_least l) ≡ is_member x l
from_least-member l x = turned-member l (least_or (first_or 0 l) l) x

-- the normal form has no repetition where the list has none
pub from_least-distinct : (l : List ℕ) → is_distinct l ≡ true → is_distinct (from_least l) ≡ true
from_least-distinct l h = turned-distinct l (least_or (first_or 0 l) l) h

-- the normal form leaves each member its successor
pub from_least-successor : (l : List ℕ) (x : ℕ) → is_distinct l ≡ true → successor (from_least l) x ≡ successor l x
from_least-successor l x h = turned-successor l (least_or (first_or 0 l) l) x h

-- the normal form leaves each member its predecessor
pub from_least-predecessor : (l : List ℕ) (x : ℕ) → is_distinct l ≡ true → predecessor (from_least l) x ≡ predecessor l x
from_least-predecessor l x h = turned-predecessor l (least_or (first_or 0 l) l) x h

-- the mirror of a list, turned to its first member: the first, then the rest reversed
pub mirror-turned : (x : ℕ) (r : List ℕ) → is_distinct (x ∷ r) ≡ true → turned (reverse (x ∷ r)) x ≡ x ∷ reverse r
mirror-turned x r h = ap (λ (l : List ℕ). turned l x) (reverse-append (x ∷ []) r) ∙ turned-cut (reverse r) x [] (member-reverse x r ∙ distinct-head x r h)

-- the normal form of the mirror of a list that begins with its least member: the first, then the rest reversed
pub mirror-from_least : (x : ℕ) (r : List ℕ) → is_distinct (x ∷ r) ≡ true → ((z : ℕ) → is_member z r ≡ true → x ≤ z) → from_least (reverse (x ∷ r)) ≡ x ∷ reverse r
mirror-from_least x r h k = ap (turned (reverse (x ∷ r))) (least-same (reverse (x ∷ r)) (x ∷ r) (λ z. member-reverse z (x ∷ r)) ∙ least-first_member x r k) ∙ mirror-turned x r h

-- the successor in the normal form of the mirror is the predecessor
pub mirror-successor : (l : List ℕ) (x : ℕ) → is_distinct l ≡ true → successor (from_least (reverse l)) x ≡ predecessor l x
mirror-successor l x h = from_least-successor (reverse l) x (distinct-reverse l h)

-- the mirror of the mirror
pub mirror-twice : (l : List ℕ) → is_distinct l ≡ true → from_least (reverse (from_least (reverse l))) ≡ from_least l
mirror-twice l h = from_least-same (reverse (from_least (reverse l))) l
    (subst (IsTurn (reverse (from_least (reverse l)))) (reverse-reverse l) (IsTurn-sym (reverse (reverse l)) (reverse (from_least (reverse l))) (IsTurn-reverse (reverse l) (from_least (reverse l)) (from_least-turn (reverse l)))))
    (distinct-reverse (from_least (reverse l)) (from_least-distinct (reverse l) (distinct-reverse l h)))

-- an order that begins with its least member is written as it should be
pub written-first : (l : List ℕ) → ((e : ℕ) → is_member e l ≡ true → first_or 0 l ≤ e) → from_least l ≡ l
written-first [] h = refl
written-first (x ∷ xs) h = from_least-first x xs (λ z m. h z (member-tail z x xs m))
