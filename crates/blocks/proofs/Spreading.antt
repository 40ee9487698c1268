-- Spreading labels: one number of the order more.
use Rattle.std.proofs.Common.{◌≡◌, ◌≢◌, ℕ, ◌+◌, ◌<◌, ◌⊎◌, inl, inr, Bool, true, false, List, [], ◌∷◌, ◌++◌, length, take, drop, get_or, set, sym, ◌∙◌, subst, arith}
use Rattle.std.proofs.lemmas.Bool.{both_ways, true≢false, false_from_ne_true}
use Rattle.std.proofs.lemmas.List.{take_more, take-append-drop, get_or_default}
use Rattle.permutations.specs.Members.{is_member, is_distinct}
use Rattle.permutations.proofs.Members.{member-head, member-cases, member-append_left, member-append_cases, distinct-append_left, distinct-append_apart}
use Rattle.permutations.proofs.Arrangements.{contains-from_member}
use Rattle.multigraph.specs.Marks.{is_marked}
use Rattle.blocks.specs.Spread.{IsSpreadOrder, IsSpread}
use Rattle.search_forest.proofs.Writes.{number-same, number-other}

-- the number at a place of a list without repetition is none of those before it
pub not_before : (order : List ℕ) (k : ℕ) → is_distinct order ≡ true → k < length order → is_member (get_or order k 0) (take k order) ≡ false
not_before order k d l = false_from_ne_true (is_member (get_or order k 0) (take k order)) (λ m.
    both_ways (is_member (get_or order k 0) (get_or order k 0 ∷ []))
    (distinct-append_apart (take k order) (get_or order k 0 ∷ []) first (get_or order k 0) m)
    (member-head (get_or order k 0) []))
  where
    more : take (k + 1) order ≡ take k order ++ get_or order k 0 ∷ []
    more = take_more order k 0 l

    first : is_distinct (take k order ++ get_or order k 0 ∷ []) ≡ true
    first = subst (λ (z : List ℕ). is_distinct z ≡ true) more
        (distinct-append_left (take (k + 1) order) (drop (k + 1) order) (subst (λ (z : List ℕ). is_distinct z ≡ true) (sym (take-append-drop (k + 1) order)) d))

-- one number more, with the label y, which is itself or the label of its parent
pub spread-more : (n : ℕ) (parent : List ℕ) (own : List Bool) (order label : List ℕ) (k y : ℕ) → IsSpreadOrder n parent own order → length label ≡ n → k < length order → IsSpread parent own (take k order) label
    → (is_marked own (get_or order k 0) ≡ true → y ≡ get_or order k 0)
    → (is_marked own (get_or order k 0) ≡ false → y ≡ get_or label (get_or parent (get_or order k 0) 0) 0)
    → IsSpread parent own (take (k + 1) order) (set label (get_or order k 0) y)
spread-more n parent own order label k y o ln l s mine theirs = record {
  of_own = λ v m h. elim (cases v m) [
    | inl b ↦ number-other label x v y (other v b) ∙ s.of_own v b h
    | inr e ↦ subst (λ (z : ℕ). get_or (set label x y) z 0 ≡ z) (sym e) (here ∙ mine (subst (λ (z : ℕ). is_marked own z ≡ true) e h))
  ];
  of_parent = λ v m h. elim (cases v m) [
    | inl b ↦ number-other label x v y (other v b) ∙ (s.of_parent v b h ∙ sym (number-other label x (get_or parent v 0) y (other (get_or parent v 0) (s.parent_done v b h))))
    | inr e ↦
        let f : is_marked own x ≡ false = subst (λ (z : ℕ). is_marked own z ≡ false) e h in
        let p : is_member (get_or parent x 0) (take k order) ≡ true = o.behind_parent k l f in
        subst (λ (z : ℕ). get_or (set label x y) z 0 ≡ get_or (set label x y) (get_or parent z 0) 0) (sym e)
        (here ∙ (theirs f ∙ sym (number-other label x (get_or parent x 0) y (other (get_or parent x 0) p))))
  ];
  parent_done = λ v m h. elim (cases v m) [
    | inl b ↦ longer (get_or parent v 0) (s.parent_done v b h)
    | inr e ↦ longer (get_or parent v 0) (subst (λ (z : ℕ). is_member (get_or parent z 0) (take k order) ≡ true) (sym e) (o.behind_parent k l (subst (λ (z : ℕ). is_marked own z ≡ false) e h)))
  ];
}
  where
    x : ℕ
    x = get_or order k 0

    more : take (k + 1) order ≡ take k order ++ x ∷ []
    more = take_more order k 0 l

    here : get_or (set label x y) x 0 ≡ y
    here = number-same label x y (omega (arith, o.within k l, ln))

    cases : (v : ℕ) → is_member v (take (k + 1) order) ≡ true → (is_member v (take k order) ≡ true) ⊎ (v ≡ x)
    cases v m = elim (member-append_cases v (take k order) (x ∷ []) (subst (λ (z : List ℕ). is_member v z ≡ true) more m)) [
      | inl b ↦ inl b
      | inr e ↦ elim (member-cases v x [] e) [ inl q ↦ inr (sym q) | inr z ↦ absurd (true≢false (sym z)) ]
    ]

    other : (v : ℕ) → is_member v (take k order) ≡ true → v ≢ x
    other v m e = both_ways (is_member x (take k order)) (not_before order k o.distinct l) (subst (λ (z : ℕ). is_member z (take k order) ≡ true) e m)

    longer : (v : ℕ) → is_member v (take k order) ≡ true → is_member v (take (k + 1) order) ≡ true
    longer v m = subst (λ (z : List ℕ). is_member v z ≡ true) (sym more) (member-append_left v (take k order) (x ∷ []) m)

-- a number among the first ones of the order is below n
pub order-in : (n : ℕ) (parent : List ℕ) (own : List Bool) (order : List ℕ) → IsSpreadOrder n parent own order → (k v : ℕ) → is_member v (take k order) ≡ true → v < n
order-in n parent own order o k v m = from (contains-from_member order v (subst (λ (l : List ℕ). is_member v l ≡ true) (take-append-drop k order) (member-append_left v (take k order) (drop k order) m)))
  where
    from : (q : ℕ) × (q < length order) × (get_or order q v ≡ v) → v < n
    from c = subst (λ (z : ℕ). z < n) (get_or_default order c.0 0 v c.1 ∙ c.2) (o.within c.0 c.1)

-- the parent of a number without a label of its own is below n
pub parent-in : (n : ℕ) (parent : List ℕ) (own : List Bool) (order : List ℕ) → IsSpreadOrder n parent own order → (k : ℕ) → k < length order → is_marked own (get_or order k 0) ≡ false → get_or parent (get_or order k 0) 0 < n
parent-in n parent own order o k l h = order-in n parent own order o k (get_or parent (get_or order k 0) 0) (o.behind_parent k l h)
