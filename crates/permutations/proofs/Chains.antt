-- A relation that leads from each member of a cyclic list to the next leads from each to each.
use Rattle.std.proofs.Common.{◌≡◌, ℕ, inl, inr, Bool, true, false, List, [], ◌∷◌, ◌++◌, sym, ap, ◌∙◌, subst, append_assoc}
use Rattle.std.proofs.lemmas.Bool.{both_ways, true≢false, false_from_ne_true}
use Rattle.permutations.specs.Members.{is_member, is_distinct}
use Rattle.permutations.specs.Cyclic.{first_or, successor, turned}
use Rattle.permutations.specs.Relation.{IsEquivalence}
use Rattle.permutations.proofs.Members.{member-head, member-cases, member-append_right, distinct-append_apart}
use Rattle.permutations.proofs.Successor.{successor-cut}
use Rattle.permutations.proofs.Turned.{turned-head, turned-distinct, turned-member, turned-successor}

-- in a list without repetition the member at a cut does not stand before it
pub apart-front : (u : List ℕ) (w : ℕ) (s : List ℕ) → is_distinct (u ++ w ∷ s) ≡ true → is_member w u ≡ false
apart-front u w s h = false_from_ne_true (is_member w u) (λ m. both_ways (is_member w (w ∷ s)) (distinct-append_apart u (w ∷ s) h w m) (member-head w s))

-- in a list without repetition the member behind w is its successor
pub successor-next : (u : List ℕ) (w z : ℕ) (s : List ℕ) → is_distinct (u ++ w ∷ z ∷ s) ≡ true → successor (u ++ w ∷ z ∷ s) w ≡ z
successor-next u w z s h = successor-cut u w (z ∷ s) (apart-front u w (z ∷ s) h)

-- in a list without repetition the last member is followed by the first
pub successor-last : (u : List ℕ) (w : ℕ) → is_distinct (u ++ w ∷ []) ≡ true → successor (u ++ w ∷ []) w ≡ first_or w u
successor-last u w h = successor-cut u w [] (apart-front u w [] h)

-- a relation with values in types, from each member behind w to the next
chain-behind : (R : ℕ → ℕ → Type 0) → ((x : ℕ) → R x x) → ((x y z : ℕ) → R x y → R y z → R x z) → (x : ℕ) (u : List ℕ) (w : ℕ) (s : List ℕ)
    → is_distinct (u ++ w ∷ s) ≡ true → ((z : ℕ) → is_member z (u ++ w ∷ s) ≡ true → R z (successor (u ++ w ∷ s) z)) → R x w
    → (y : ℕ) → is_member y (w ∷ s) ≡ true → R x y
chain-behind R r t x u w [] h k c y m = elim (member-cases y w [] m) [ inl e ↦ subst (R x) e c | inr n ↦ absurd (true≢false (sym n)) ]
chain-behind R r t x u w (z ∷ s) h k c y m = elim (member-cases y w (z ∷ s) m) [
  | inl e ↦ subst (R x) e c
  | inr n ↦ chain-behind R r t x (u ++ w ∷ []) z s (subst (λ (l : List ℕ). is_distinct l ≡ true) a h)
      (λ v q. subst (λ (l : List ℕ). R v (successor l v)) a (k v (ap (is_member v) a ∙ q)))
      (t x w z c (subst (R w) (successor-next u w z s h) (k w (member-append_right w u (w ∷ z ∷ s) (member-head w (z ∷ s))))))
      y n
]
  where
    a : u ++ w ∷ z ∷ s ≡ (u ++ w ∷ []) ++ z ∷ s
    a = sym (append_assoc u (w ∷ []) (z ∷ s))

-- a reflexive and transitive relation with values in types that leads from each member to its successor leads from each member to each
pub chain-typed : (R : ℕ → ℕ → Type 0) → ((x : ℕ) → R x x) → ((x y z : ℕ) → R x y → R y z → R x z) → (l : List ℕ) → is_distinct l ≡ true
    → ((z : ℕ) → is_member z l ≡ true → R z (successor l z)) → (x y : ℕ) → is_member x l ≡ true → is_member y l ≡ true → R x y
chain-typed R r t l h k x y m n = chain-behind R r t x [] x w.0
    (subst (λ (z : List ℕ). is_distinct z ≡ true) w.1 (turned-distinct l x h))
    (λ z q. subst (R z) (sym (turned-successor l x z h) ∙ ap (λ (v : List ℕ). successor v z) w.1) (k z (sym (turned-member l x z) ∙ ap (is_member z) w.1 ∙ q)))
    (r x) y (sym (ap (is_member y) w.1) ∙ turned-member l x y ∙ n)
  where
    w : (r : List ℕ) × (turned l x ≡ x ∷ r)
    w = turned-head l x m

-- an equivalence that contains each member with its successor contains each two members
pub chain : (r : ℕ → ℕ → Bool) → IsEquivalence r → (l : List ℕ) → is_distinct l ≡ true → ((z : ℕ) → is_member z l ≡ true → r z (successor l z) ≡ true) → (x y : ℕ) → is_member x l ≡ true → is_member y l ≡ true → r x y ≡ true
chain r e l h k x y m n = chain-typed (λ a b. r a b ≡ true) e.reflexive e.transitive l h k x y m n

-- a test that each member passes on to its successor holds of all members or of none
pub chain-test : (a : ℕ → Bool) (l : List ℕ) → is_distinct l ≡ true → ((z : ℕ) → is_member z l ≡ true → a z ≡ true → a (successor l z) ≡ true) → (x y : ℕ) → is_member x l ≡ true → is_member y l ≡ true → a x ≡ true → a y ≡ true
chain-test a l h k x y m n t = chain-typed (λ u v. a u ≡ true → a v ≡ true) (λ u q. q) (λ u v w f g q. g (f q)) l h k x y m n t
