-- Where a run ends, the next one begins: the key of what follows the last member of a run follows the run's key.
use Rattle.std.proofs.Common.{◌≡◌, ℕ, ◌<◌, ◌⊎◌, length, Bool, true, false, List, [], ◌∷◌, ◌++◌, inl, inr, refl, sym, ap, ◌∙◌, subst, arith, All, append_assoc}
use Rattle.std.proofs.lemmas.Bool.{both_ways, cases_Bool}
use Rattle.std.proofs.lemmas.List.Elements.{All-tail, All-head}
use Rattle.permutations.specs.Members.{is_member, is_distinct}
use Rattle.permutations.specs.Cyclic.{IsTurn, successor, first_or}
use Rattle.permutations.specs.Runs.{InRuns, IsGroup, joined, group_keys}
use Rattle.permutations.proofs.Members.{member-head, member-append_right, distinct-append_left, distinct-append_right, distinct-head, no_member-head, distinct-append_apart, cut_at}
use Rattle.permutations.proofs.Successor.{successor-cut}
use Rattle.permutations.proofs.Turned.{IsTurn-successor, IsTurn-distinct, IsTurn-member, IsTurn-map}
use Rattle.permutations.proofs.Runs.{runs-turn, joined-member}

-- a list joined of groups begins with a member of the first group's key
first-key : (key : ℕ → ℕ) (a k : ℕ) (gs : List (ℕ × List ℕ)) → key a ≡ k → All (IsGroup key) gs → key (first_or a (joined gs)) ≡ first_or k (group_keys gs)
first-key key a k [] e all = e
first-key key a k (g ∷ gs) e all = at g.1 (joined gs) (All-head (IsGroup key) g gs all).filled (λ x m. (All-head (IsGroup key) g gs all).same_key x m)
  where
    at : (l rest : List ℕ) → 0 < length l → ((x : ℕ) → is_member x l ≡ true → key x ≡ g.0) → key (first_or a (l ++ rest)) ≡ g.0
    at [] rest n h = absurd (omega (arith, n))
    at (x ∷ l) rest n h = h x (member-head x l)

-- a run whose members have the key of its group, first among the groups
module _ (key : ℕ → ℕ) (l : List ℕ) (c : ℕ) (g : ℕ × List ℕ) (gs : List (ℕ × List ℕ)) (d : is_distinct l ≡ true) (r : InRuns key l (g ∷ gs)) (m : is_member c g.1 ≡ true) where
  -- the key of c
  own : key c ≡ g.0
  own = (All-head (IsGroup key) g gs r.groups).same_key c m

  -- the keys of the groups, from c's on: the next one
  next-key : successor (group_keys (g ∷ gs)) (key c) ≡ first_or (key c) (group_keys gs)
  next-key = subst (λ k. successor (k ∷ group_keys gs) (key c) ≡ first_or (key c) (group_keys gs)) own (successor-cut [] (key c) (group_keys gs) refl)

  -- what follows c, where c stands in its group between these
  follows : (xs ys : List ℕ) → g.1 ≡ xs ++ c ∷ ys → successor l c ≡ first_or (first_or c xs) (ys ++ joined gs)
  follows xs ys e = sym (IsTurn-successor l (joined (g ∷ gs)) c r.around d) ∙ ap (λ z. successor z c) whole ∙ successor-cut xs c (ys ++ joined gs) before
    where
      whole : g.1 ++ joined gs ≡ xs ++ c ∷ (ys ++ joined gs)
      whole = ap (λ z. z ++ joined gs) e ∙ append_assoc xs (c ∷ ys) (joined gs)

      different : is_distinct (xs ++ c ∷ (ys ++ joined gs)) ≡ true
      different = ap is_distinct (sym whole) ∙ IsTurn-distinct l (joined (g ∷ gs)) r.around d

      before : is_member c xs ≡ false
      before = absent (is_member c xs) (λ h. both_ways (is_member c (c ∷ (ys ++ joined gs))) (distinct-append_apart xs (c ∷ (ys ++ joined gs)) different c h) (member-head c (ys ++ joined gs)))
        where
          absent : (b : Bool) → (b ≡ true → ⊥) → b ≡ false
          absent b n = grind (arith, cases_Bool b)

  -- so the last one is followed by the first of the next group
  run-end : ((key (successor l c) ≡ key c → ⊥) ⊎ (successor l c ≡ c)) → (xs ys : List ℕ) → g.1 ≡ xs ++ c ∷ ys → successor (group_keys (g ∷ gs)) (key c) ≡ key (successor l c)
  run-end h xs [] e = next-key ∙ sym (ap key (follows xs [] e) ∙ first-key key (first_or c xs) (key c) gs (front xs e) (All-tail (IsGroup key) g gs r.groups))
    where
      front : (zs : List ℕ) → g.1 ≡ zs ++ c ∷ [] → key (first_or c zs) ≡ key c
      front [] i = refl
      front (z ∷ zs) i = (All-head (IsGroup key) g gs r.groups).same_key z (ap (is_member z) i ∙ member-head z (zs ++ c ∷ [])) ∙ sym own
  run-end h xs (y ∷ ys) e = elim h [
    | inl n ↦ absurd (n (ap key (follows xs (y ∷ ys) e) ∙ (All-head (IsGroup key) g gs r.groups).same_key y (ap (is_member y) e ∙ member-append_right y xs (c ∷ y ∷ ys) (member-append_right y (c ∷ []) (y ∷ ys) (member-head y ys))) ∙ sym own))
    | inr i ↦ absurd (no_member-head c y ys (distinct-head c (y ∷ ys) (distinct-append_right xs (c ∷ y ∷ ys) own-distinct)) (sym (follows xs (y ∷ ys) e) ∙ i))
  ]
    where
      own-distinct : is_distinct (xs ++ c ∷ y ∷ ys) ≡ true
      own-distinct = ap is_distinct (sym e) ∙ distinct-append_left g.1 (joined gs) (IsTurn-distinct l (joined (g ∷ gs)) r.around d)

-- the key of what follows c in an order in runs follows the key of c, where it is another key, or c alone is there
pub run-followed : (key : ℕ → ℕ) (l : List ℕ) (gs : List (ℕ × List ℕ)) (c : ℕ) → is_distinct l ≡ true → InRuns key l gs → is_member c l ≡ true → ((key (successor l c) ≡ key c → ⊥) ⊎ (successor l c ≡ c))
    → successor (group_keys gs) (key c) ≡ key (successor l c)
run-followed key l gs c d r m h = at (joined-member gs c (IsTurn-member l (joined gs) c r.around ∙ m))
  where
    at : (us : List (ℕ × List ℕ)) × (g : ℕ × List ℕ) × (vs : List (ℕ × List ℕ)) × (gs ≡ us ++ g ∷ vs) × (is_member c g.1 ≡ true) → successor (group_keys gs) (key c) ≡ key (successor l c)
    at w = sym (IsTurn-successor (group_keys gs) (group_keys (w.1 ∷ (w.2 ++ w.0))) (key c) (IsTurn-map (λ g. g.0) gs (w.1 ∷ (w.2 ++ w.0)) turn) r.once)
        ∙ (let k = cut_at c w.1.1 w.4 in run-end key l c w.1 (w.2 ++ w.0) d (runs-turn key l gs (w.1 ∷ (w.2 ++ w.0)) r turn) w.4 h k.front k.back k.is)
      where
        turn : IsTurn gs (w.1 ∷ (w.2 ++ w.0))
        turn = record { front = w.0; back = w.1 ∷ w.2; before = w.3; after = refl }
