-- When two lists without repetition are one cyclic order: turned to one member they are equal, which successors decide.
use Rattle.std.proofs.Common.{◌≡◌, ℕ, ◌⊎◌, inl, inr, true, false, List, [], ◌∷◌, ◌++◌, refl, sym, ap, ◌∙◌, subst, append_assoc}
use Rattle.std.proofs.lemmas.Bool.{both_ways, false_from_ne_true}
use Rattle.permutations.specs.Members.{is_member, is_distinct}
use Rattle.permutations.specs.Cyclic.{first_or, successor, turned, IsTurn}
use Rattle.permutations.proofs.Members.{member-head, member-append, member-append_cases, distinct-append_apart, distinct-append_comm, CutAt, cut_at}
use Rattle.permutations.proofs.Successor.{successor-cut}
use Rattle.permutations.proofs.Turned.{turned-cut, turned-first, turned-turn, turned-head, turned-distinct, turned-successor, IsTurn-sym, IsTurn-member}

-- two ways to cut one list: one front is a part of the other
pub append-split : {X : Type 0} (a b c d : List X) → a ++ b ≡ c ++ d → ((e : List X) × (c ≡ a ++ e) × (b ≡ e ++ d)) ⊎ ((e : List X) × (a ≡ c ++ e) × (d ≡ e ++ b))
append-split [] b c d h = inl (c, refl, h)
append-split (x ∷ a) b [] d h = inr (x ∷ a, refl, sym h)
append-split {X} (x ∷ a) b (y ∷ c) d h = elim (append-split a b c d rest) [
  | inl w ↦ inl (w.0, same x y a c head (a ++ w.0) w.1, w.2)
  | inr w ↦ inr (w.0, same y x c a (sym head) (c ++ w.0) w.1, w.2)
]
  where
    head : x ≡ y
    head = cc

    rest : a ++ b ≡ c ++ d
    rest = cc

    same : (x y : X) (a c : List X) → x ≡ y → (e : List X) → c ≡ e → y ∷ c ≡ x ∷ e
    same x y a c p e q = cc

-- turns one after the other
pub IsTurn-trans : {X : Type 0} (l k m : List X) → IsTurn l k → IsTurn k m → IsTurn l m
IsTurn-trans l k m s t = elim (append-split s.back s.front t.front t.back (sym s.after ∙ t.before)) [
  | inl w ↦ record {
    front = w.0;
    back = t.back ++ s.back;
    before = s.before ∙ ap (λ (z : List _). z ++ s.back) w.2 ∙ append_assoc w.0 t.back s.back;
    after = t.after ∙ ap (λ (z : List _). t.back ++ z) w.1 ∙ sym (append_assoc t.back s.back w.0);
  }
  | inr w ↦ record {
    front = s.front ++ t.front;
    back = w.0;
    before = s.before ∙ ap (λ (z : List _). s.front ++ z) w.1 ∙ sym (append_assoc s.front t.front w.0);
    after = t.after ∙ ap (λ (z : List _). z ++ t.front) w.2 ∙ append_assoc w.0 s.front t.front;
  }
]

-- parts that change places, turned to a member of the front
turned-swap_front : (a b : List ℕ) (y : ℕ) → is_distinct (a ++ b) ≡ true → is_member y a ≡ true → turned (a ++ b) y ≡ turned (b ++ a) y
turned-swap_front a b y h m = there ∙ ap (λ (l : List ℕ). y ∷ l) (append_assoc c.back b c.front) ∙ sym here
  where
    c : CutAt y a
    c = cut_at y a m

    there : turned (a ++ b) y ≡ (y ∷ (c.back ++ b)) ++ c.front
    there = ap (λ (l : List ℕ). turned (l ++ b) y) c.is ∙ ap (λ (l : List ℕ). turned l y) (append_assoc c.front (y ∷ c.back) b) ∙ turned-cut c.front y (c.back ++ b) c.first

    apart : is_member y (b ++ c.front) ≡ false
    apart = rw (member-append y b c.front, distinct-append_apart a b h y m, c.first) refl

    here : turned (b ++ a) y ≡ (y ∷ c.back) ++ (b ++ c.front)
    here = ap (λ (l : List ℕ). turned (b ++ l) y) c.is ∙ ap (λ (l : List ℕ). turned l y) (sym (append_assoc b c.front (y ∷ c.back))) ∙ turned-cut (b ++ c.front) y c.back apart

-- two turns of one list, turned to one member, are equal
pub IsTurn-turned : (l k : List ℕ) (y : ℕ) → IsTurn l k → is_distinct l ≡ true → is_member y l ≡ true → turned l y ≡ turned k y
IsTurn-turned l k y t h m = ap (λ (z : List ℕ). turned z y) t.before ∙ swapped ∙ sym (ap (λ (z : List ℕ). turned z y) t.after)
  where
    d : is_distinct (t.front ++ t.back) ≡ true
    d = subst (λ (z : List ℕ). is_distinct z ≡ true) t.before h

    swapped : turned (t.front ++ t.back) y ≡ turned (t.back ++ t.front) y
    swapped = elim (member-append_cases y t.front t.back (sym (ap (is_member y) t.before) ∙ m)) [
      | inl f ↦ turned-swap_front t.front t.back y d f
      | inr b ↦ sym (turned-swap_front t.back t.front y (distinct-append_comm t.front t.back d) b)
    ]

-- a turn that begins with y is the list turned to y
pub IsTurn-head : (l : List ℕ) (y : ℕ) (r : List ℕ) → IsTurn l (y ∷ r) → is_distinct l ≡ true → turned l y ≡ y ∷ r
IsTurn-head l y r t h = IsTurn-turned l (y ∷ r) y t h (sym (IsTurn-member l (y ∷ r) y t) ∙ member-head y r) ∙ turned-first y r

-- the successor at the cut of a list without repetition
pub outside : (u : List ℕ) (w : ℕ) (s : List ℕ) → is_distinct (u ++ w ∷ s) ≡ true → successor (u ++ w ∷ s) w ≡ first_or (first_or w u) s
outside u w s h = successor-cut u w s (false_from_ne_true (is_member w u) (λ m. both_ways (is_member w (w ∷ s)) (distinct-append_apart u (w ∷ s) h w m) (member-head w s)))

-- what follows the cut is not the first of the list
over : (u : List ℕ) (w z : ℕ) (t : List ℕ) → is_distinct (u ++ w ∷ z ∷ t) ≡ true → z ≡ first_or w u → ⊥
over u w z t h e = both_ways (is_member z (z ∷ t))
    (distinct-append_apart (u ++ w ∷ []) (z ∷ t) (subst (λ (l : List ℕ). is_distinct l ≡ true) (sym (append_assoc u (w ∷ []) (z ∷ t))) h) z
    (subst (λ (v : ℕ). is_member v (u ++ w ∷ []) ≡ true) (sym e) (among u w)))
    (member-head z t)
  where
    among : (u : List ℕ) (w : ℕ) → is_member (first_or w u) (u ++ w ∷ []) ≡ true
    among [] w = member-head w []
    among (x ∷ u) w = member-head x (u ++ w ∷ [])

-- one more member that the two lists share: what follows is the same as long as the successors are
same-tails : (u : List ℕ) (w : ℕ) (s t : List ℕ) → is_distinct (u ++ w ∷ s) ≡ true → is_distinct (u ++ w ∷ t) ≡ true → ((z : ℕ) → successor (u ++ w ∷ s) z ≡ successor (u ++ w ∷ t) z) → s ≡ t
same-tails u w [] [] h k e = refl
same-tails u w [] (z ∷ t) h k e = absurd (over u w z t k (sym (outside u w (z ∷ t) k) ∙ sym (e w) ∙ outside u w [] h))
same-tails u w (z ∷ s) [] h k e = absurd (over u w z s h (sym (outside u w (z ∷ s) h) ∙ e w ∙ outside u w [] k))
same-tails u w (z ∷ s) (y ∷ t) h k e = rw d (ap (λ (l : List ℕ). y ∷ l) (same-tails (u ++ w ∷ []) y s t (move s (subst (λ (v : ℕ). is_distinct (u ++ w ∷ v ∷ s) ≡ true) d h)) (move t k)
    (λ v. ap (λ (l : List ℕ). successor l v) (append_assoc u (w ∷ []) (y ∷ s)) ∙ ap (λ (x : ℕ). successor (u ++ w ∷ x ∷ s) v) (sym d) ∙ e v ∙ sym (ap (λ (l : List ℕ). successor l v) (append_assoc u (w ∷ []) (y ∷ t))))))
  where
    d : z ≡ y
    d = sym (outside u w (z ∷ s) h) ∙ e w ∙ outside u w (y ∷ t) k

    move : (r : List ℕ) → is_distinct (u ++ w ∷ y ∷ r) ≡ true → is_distinct ((u ++ w ∷ []) ++ y ∷ r) ≡ true
    move r g = subst (λ (l : List ℕ). is_distinct l ≡ true) (sym (append_assoc u (w ∷ []) (y ∷ r))) g

-- two lists without repetition that begin alike and have the same successors are equal
pub same-from_successor : (x : ℕ) (s t : List ℕ) → is_distinct (x ∷ s) ≡ true → is_distinct (x ∷ t) ≡ true → ((z : ℕ) → successor (x ∷ s) z ≡ successor (x ∷ t) z) → x ∷ s ≡ x ∷ t
same-from_successor x s t h k e = ap (λ (l : List ℕ). x ∷ l) (same-tails [] x s t h k e)

-- two lists without repetition with the same first, the same members and the same successors are equal
pub same-lists : (l k : List ℕ) → is_distinct l ≡ true → is_distinct k ≡ true → first_or 0 l ≡ first_or 0 k → ((z : ℕ) → is_member z l ≡ is_member z k) → ((z : ℕ) → successor l z ≡ successor k z) → l ≡ k
same-lists [] [] h g e m s = refl
same-lists [] (y ∷ k) h g e m s = absurd (both_ways (is_member y (y ∷ k)) (sym (m y)) (member-head y k))
same-lists (x ∷ l) [] h g e m s = absurd (both_ways (is_member x (x ∷ l)) (m x) (member-head x l))
same-lists (x ∷ l) (y ∷ k) h g e m s = same-from_successor x l k h (subst (λ (v : ℕ). is_distinct (v ∷ k) ≡ true) (sym e) g) (λ z. s z ∙ ap (λ (v : ℕ). successor (v ∷ k) z) (sym e)) ∙ ap (λ (v : ℕ). v ∷ k) e

-- two lists without repetition with the same successors, turned to a common member, are equal
pub turned-from_successor : (l k : List ℕ) (y : ℕ) → is_distinct l ≡ true → is_distinct k ≡ true → is_member y l ≡ true → is_member y k ≡ true → ((z : ℕ) → successor l z ≡ successor k z) → turned l y ≡ turned k y
turned-from_successor l k y h g m n s = a.1 ∙ same-from_successor y a.0 b.0
    (subst (λ (z : List ℕ). is_distinct z ≡ true) a.1 (turned-distinct l y h))
    (subst (λ (z : List ℕ). is_distinct z ≡ true) b.1 (turned-distinct k y g))
    (λ z. ap (λ (v : List ℕ). successor v z) (sym a.1) ∙ turned-successor l y z h ∙ s z ∙ sym (turned-successor k y z g) ∙ ap (λ (v : List ℕ). successor v z) b.1) ∙ sym b.1
  where
    a : (r : List ℕ) × (turned l y ≡ y ∷ r)
    a = turned-head l y m

    b : (r : List ℕ) × (turned k y ≡ y ∷ r)
    b = turned-head k y n

-- two lists without repetition with a common member and the same successors are one cyclic order
pub IsTurn-from_successor : (l k : List ℕ) (y : ℕ) → is_distinct l ≡ true → is_distinct k ≡ true → is_member y l ≡ true → is_member y k ≡ true → ((z : ℕ) → successor l z ≡ successor k z) → IsTurn l k
IsTurn-from_successor l k y h g m n s = IsTurn-trans l (turned k y) k
    (subst (IsTurn l) (turned-from_successor l k y h g m n s) (turned-turn l y))
    (IsTurn-sym k (turned k y) (turned-turn k y))
