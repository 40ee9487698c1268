-- Successor and predecessor in a list without repetition that is read cyclically: they stay in it and invert each other,
-- and do not depend on where the list begins.
use Rattle.std.proofs.Common.{◌≡◌, ℕ, inl, inr, true, false, List, [], ◌∷◌, ◌++◌, reverse, refl, sym, ap, ◌∙◌, subst, append_assoc}
use Rattle.std.proofs.lemmas.Bool.{cases_Bool, eq-eqb, ne_eqb}
use Rattle.std.proofs.lemmas.List.{reverse-append, reverse-reverse}
use Rattle.permutations.specs.Members.{is_member, is_distinct}
use Rattle.permutations.specs.Cyclic.{first_or, successor_from, successor, predecessor}
use Rattle.permutations.proofs.Members.{member-head, member-tail, no_member-head, no_member-tail, member-append, member-append_left, member-append_right, distinct-head, distinct-tail, distinct-append_apart, distinct-append_comm, member-reverse, distinct-reverse, CutAt, cut_at}

-- the first of two lists joined
pub first_or-append : (d : ℕ) (a b : List ℕ) → first_or d (a ++ b) ≡ first_or (first_or d b) a
first_or-append d [] b = refl
first_or-append d (x ∷ a) b = refl

-- the first of a list is one of it, or the number that stands for none
pub first_or-member : (d x : ℕ) (xs : List ℕ) → is_member (first_or d (x ∷ xs)) (x ∷ xs) ≡ true
first_or-member d x xs = member-head x xs

-- of whom is no member of the list, the search finds nothing in it
successor_from-skip : (s : ℕ) (a b : List ℕ) (x : ℕ) → is_member x a ≡ false → successor_from s (a ++ x ∷ b) x ≡ first_or s b
successor_from-skip s [] b x h = rw (eq-eqb x x refl) refl
successor_from-skip s (y ∷ a) b x h = rw (ne_eqb y x (no_member-head x y a h)) (successor_from-skip s a b x (no_member-tail x y a h))

-- who is no member stays
successor_from-none : (s : ℕ) (l : List ℕ) (x : ℕ) → is_member x l ≡ false → successor_from s l x ≡ x
successor_from-none s [] x h = refl
successor_from-none s (y ∷ l) x h = rw (ne_eqb y x (no_member-head x y l h)) (successor_from-none s l x (no_member-tail x y l h))

-- the successor of x in a list cut at x: the first behind x, else the first before x, else x
pub successor-cut : (a : List ℕ) (x : ℕ) (b : List ℕ) → is_member x a ≡ false → successor (a ++ x ∷ b) x ≡ first_or (first_or x a) b
successor-cut a x b h = successor_from-skip (first_or x (a ++ x ∷ b)) a b x h ∙ ap (λ (d : ℕ). first_or d b) (first_or-append x a (x ∷ b))

-- who is no member is its own successor
pub successor-absent : (l : List ℕ) (x : ℕ) → is_member x l ≡ false → successor l x ≡ x
successor-absent l x h = successor_from-none (first_or x l) l x h

-- who is no member is its own predecessor
pub predecessor-absent : (l : List ℕ) (x : ℕ) → is_member x l ≡ false → predecessor l x ≡ x
predecessor-absent l x h = successor-absent (reverse l) x (member-reverse x l ∙ h)

-- the first of a non-empty list, else a member of another
first_or-among : (d : ℕ) (a l : List ℕ) → is_member d l ≡ true → ((z : ℕ) → is_member z a ≡ true → is_member z l ≡ true) → is_member (first_or d a) l ≡ true
first_or-among d [] l h k = h
first_or-among d (x ∷ a) l h k = k x (member-head x a)

-- the successor of a member is a member
pub successor-member : (l : List ℕ) (x : ℕ) → is_member x l ≡ true → is_member (successor l x) l ≡ true
successor-member l x m = subst (λ (k : List ℕ). is_member (successor k x) k ≡ true) (sym c.is) here
  where
    c : CutAt x l
    c = cut_at x l m

    whole : List ℕ
    whole = c.front ++ x ∷ c.back

    here : is_member (successor whole x) whole ≡ true
    here = subst (λ (y : ℕ). is_member y whole ≡ true) (sym (successor-cut c.front x c.back c.first))
        (first_or-among (first_or x c.front) c.back whole
        (first_or-among x c.front whole (member-append_right x c.front (x ∷ c.back) (member-head x c.back)) (λ z k. member-append_left z c.front (x ∷ c.back) k))
        (λ z k. member-append_right z c.front (x ∷ c.back) (member-tail z x c.back k)))

-- the predecessor of a member is a member
pub predecessor-member : (l : List ℕ) (x : ℕ) → is_member x l ≡ true → is_member (predecessor l x) l ≡ true
predecessor-member l x m = sym (member-reverse (predecessor l x) l) ∙ successor-member (reverse l) x (member-reverse x l ∙ m)

-- the successor of a member of the front is the same when the back is put in front
successor-swap_front : (a b : List ℕ) (x : ℕ) → is_distinct (a ++ b) ≡ true → is_member x a ≡ true → successor (a ++ b) x ≡ successor (b ++ a) x
successor-swap_front a b x h m = there ∙ same c.back b ∙ sym here
  where
    c : CutAt x a
    c = cut_at x a m

    u : List ℕ
    u = c.front

    v : List ℕ
    v = c.back

    outside : is_member x b ≡ false
    outside = distinct-append_apart a b h x m

    there : successor (a ++ b) x ≡ first_or (first_or x u) (v ++ b)
    there = ap (λ (l : List ℕ). successor (l ++ b) x) c.is ∙ ap (λ (l : List ℕ). successor l x) (append_assoc u (x ∷ v) b) ∙ successor-cut u x (v ++ b) c.first

    apart : is_member x (b ++ u) ≡ false
    apart = rw (member-append x b u, outside, c.first) refl

    here : successor (b ++ a) x ≡ first_or (first_or x (b ++ u)) v
    here = ap (λ (l : List ℕ). successor (b ++ l) x) c.is ∙ ap (λ (l : List ℕ). successor l x) (sym (append_assoc b u (x ∷ v))) ∙ successor-cut (b ++ u) x v apart

    same : (v b : List ℕ) → first_or (first_or x u) (v ++ b) ≡ first_or (first_or x (b ++ u)) v
    same [] b = sym (first_or-append x b u)
    same (z ∷ v) b = refl

-- where a list without repetition is cut, and its parts change places, each member keeps its successor
pub successor-swap : (a b : List ℕ) (x : ℕ) → is_distinct (a ++ b) ≡ true → successor (a ++ b) x ≡ successor (b ++ a) x
successor-swap a b x h = elim (cases_Bool (is_member x a)) [
  | inl m ↦ successor-swap_front a b x h m
  | inr n ↦ elim (cases_Bool (is_member x b)) [
    | inl m ↦ sym (successor-swap_front b a x (distinct-append_comm a b h) m)
    | inr k ↦ successor-absent (a ++ b) x (rw (member-append x a b, n, k) refl) ∙ sym (successor-absent (b ++ a) x (rw (member-append x b a, n, k) refl))
  ]
]

-- the same for predecessors
pub predecessor-swap : (a b : List ℕ) (x : ℕ) → is_distinct (a ++ b) ≡ true → predecessor (a ++ b) x ≡ predecessor (b ++ a) x
predecessor-swap a b x h =
    ap (λ (l : List ℕ). successor l x) (reverse-append a b)
    ∙ successor-swap (reverse b) (reverse a) x (subst (λ (l : List ℕ). is_distinct l ≡ true) (reverse-append a b) (distinct-reverse (a ++ b) h))
    ∙ ap (λ (l : List ℕ). successor l x) (sym (reverse-append b a))

-- the predecessor of the successor of the first
predecessor-successor_first : (x : ℕ) (r : List ℕ) → is_distinct (x ∷ r) ≡ true → predecessor (x ∷ r) (successor (x ∷ r) x) ≡ x
predecessor-successor_first x [] h = rw (eq-eqb x x refl) (rw (eq-eqb x x refl) refl)
predecessor-successor_first x (z ∷ r) h =
    ap (λ (y : ℕ). predecessor (x ∷ z ∷ r) y) (successor-cut [] x (z ∷ r) refl)
    ∙ ap (λ (l : List ℕ). successor l z) (reverse-append (x ∷ z ∷ []) r)
    ∙ successor-cut (reverse r) z (x ∷ []) (member-reverse z r ∙ distinct-head z r (distinct-tail x (z ∷ r) h))

-- in a list without repetition the predecessor of the successor is the member itself
pub predecessor-successor : (l : List ℕ) (x : ℕ) → is_distinct l ≡ true → predecessor l (successor l x) ≡ x
predecessor-successor l x h = elim (cases_Bool (is_member x l)) [
  | inr n ↦ ap (predecessor l) (successor-absent l x n) ∙ predecessor-absent l x n
  | inl m ↦ at (cut_at x l m)
]
  where
    at : CutAt x l → predecessor l (successor l x) ≡ x
    at c =
        ap (λ (k : List ℕ). predecessor k (successor k x)) c.is
        ∙ ap (λ (y : ℕ). predecessor (c.front ++ x ∷ c.back) y) (successor-swap c.front (x ∷ c.back) x d)
        ∙ predecessor-swap c.front (x ∷ c.back) (successor (x ∷ (c.back ++ c.front)) x) d
        ∙ predecessor-successor_first x (c.back ++ c.front) (distinct-append_comm c.front (x ∷ c.back) d)
      where
        d : is_distinct (c.front ++ x ∷ c.back) ≡ true
        d = subst (λ (k : List ℕ). is_distinct k ≡ true) c.is h

-- the predecessor is the successor in the list reversed, and the other way round
pub predecessor-reverse : (l : List ℕ) (x : ℕ) → predecessor (reverse l) x ≡ successor l x
predecessor-reverse l x = ap (λ (k : List ℕ). successor k x) (reverse-reverse l)

-- in a list without repetition the successor of the predecessor is the member itself
pub successor-predecessor : (l : List ℕ) (x : ℕ) → is_distinct l ≡ true → successor l (predecessor l x) ≡ x
successor-predecessor l x h = sym (predecessor-reverse l (predecessor l x)) ∙ predecessor-successor (reverse l) x (distinct-reverse l h)

-- members with one successor are equal
pub successor-injective : (l : List ℕ) (x y : ℕ) → is_distinct l ≡ true → successor l x ≡ successor l y → x ≡ y
successor-injective l x y h e = sym (predecessor-successor l x h) ∙ ap (predecessor l) e ∙ predecessor-successor l y h
