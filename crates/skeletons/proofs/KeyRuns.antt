-- Cyclic orders in runs, seen through their keys: what is in runs depends on the list of keys alone, and the keys met are those
-- of the runs. (Lemmas on lists alone: they belong to permutations.)
use Rattle.std.proofs.Common.{◌≡◌, ◌≢◌, ℕ, ◌<◌, ◌⊎◌, inl, inr, Bool, true, false, cond, List, [], ◌∷◌, ◌++◌, length, map, refl, sym, ap, ap₂, ◌∙◌, subst, arith, All}
use Rattle.std.proofs.lemmas.Bool.{both_ways, false_from_ne_true}
use Rattle.std.proofs.lemmas.List.{length-map, append_assoc, append-nil, map-append}
use Rattle.std.proofs.lemmas.List.Elements.{All-nil, All-cons, All-head, All-tail}
use Rattle.permutations.specs.Cyclic.{first_or, successor, IsTurn, from_least}
use Rattle.permutations.specs.Members.{is_member, is_distinct}
use Rattle.permutations.specs.Runs.{joined, group_keys, IsGroup, InRuns}
use Rattle.permutations.proofs.CyclicSame.{append-split, IsTurn-trans}
use Rattle.permutations.proofs.Members.{member-head, member-tail, member-append_left, member-append_right, no_member-append, distinct-head, distinct-tail, CutAt, cut_at}
use Rattle.permutations.proofs.NormalForm.{from_least-same, from_least-turn}
use Rattle.permutations.proofs.Runs.{joined-append, joined-member, joined-key, runs-turn, runs-turned, first-of}
use Rattle.permutations.proofs.Successor.{successor-cut}
use Rattle.permutations.proofs.Turned.{IsTurn-refl, IsTurn-sym, IsTurn-map, IsTurn-member, IsTurn-successor}
use Rattle.permutations.proofs.Mapped.{map-member, member-map}
use Rattle.skeletons.specs.Round.{each_once, keys_met}
use Rattle.skeletons.specs.Families.{StandInOrder}

-- a list is cut where its values are
pub map-cut : (key : ℕ → ℕ) (m a b : List ℕ) → map key m ≡ a ++ b → (u : List ℕ) × (w : List ℕ) × (m ≡ u ++ w) × (map key u ≡ a) × (map key w ≡ b)
map-cut key m [] b e = ([], m, refl, refl, e)
map-cut key [] (x ∷ a) b e = absurd (omega (arith, ap length e))
map-cut key (y ∷ m) (x ∷ a) b e =
    let w = map-cut key m a b rest in
    (y ∷ w.0, w.1, ap (λ (z : List ℕ). y ∷ z) w.2, ap₂ ◌∷◌ head w.3, w.4)
  where
    head : key y ≡ x
    head = cc

    rest : map key m ≡ a ++ b
    rest = cc

-- groups cut out of a list with the same values as other groups
pub regrouped : (key : ℕ → ℕ) (gs : List (ℕ × List ℕ)) (m : List ℕ) → All (IsGroup key) gs → map key m ≡ map key (joined gs)
    → (hs : List (ℕ × List ℕ)) × (joined hs ≡ m) × (group_keys hs ≡ group_keys gs) × All (IsGroup key) hs
regrouped key [] [] a e = ([], refl, refl, All-nil (IsGroup key))
regrouped key [] (x ∷ m) a e = absurd (omega (arith, ap length e))
regrouped key (g ∷ gs) m a e =
    let c = map-cut key m (map key g.1) (map key (joined gs)) (e ∙ map-append key g.1 (joined gs)) in
    let w = regrouped key gs c.1 (All-tail (IsGroup key) g gs a) c.4 in
    let own : IsGroup key g = All-head (IsGroup key) g gs a in
    let group : IsGroup key (g.0, c.0) = record {
      filled = omega (arith, own.filled, length-map c.0 key, length-map g.1 key, ap length c.3);
      same_key = λ x m. let y = map-member key g.1 (key x) (sym (ap (is_member (key x)) c.3) ∙ member-map key c.0 x m) in sym y.2 ∙ own.same_key y.0 y.1;
    } in
    ((g.0, c.0) ∷ w.0, ap (λ (z : List ℕ). c.0 ++ z) w.1 ∙ sym c.2, ap (λ (z : List ℕ). g.0 ∷ z) w.2, All-cons (IsGroup key) (g.0, c.0) w.0 group w.3)

-- what has the same values is in runs too, with the same keys
pub runs-same : (key : ℕ → ℕ) (l m : List ℕ) (gs : List (ℕ × List ℕ)) → InRuns key l gs → map key l ≡ map key m → (hs : List (ℕ × List ℕ)) × InRuns key m hs × (group_keys hs ≡ group_keys gs)
runs-same key l m gs r e =
    let f : List ℕ = r.around.front in
    let b : List ℕ = r.around.back in
    let c = map-cut key m (map key f) (map key b) (sym e ∙ ap (map key) r.around.before ∙ map-append key f b) in
    let w = regrouped key gs (c.1 ++ c.0) r.groups (map-append key c.1 c.0 ∙ ap₂ ◌++◌ c.4 c.3 ∙ sym (map-append key b f) ∙ sym (ap (map key) r.around.after)) in
    (w.0, record { once = ap is_distinct w.2 ∙ r.once; groups = w.3; around = record { front = c.0; back = c.1; before = c.2; after = w.1 } }, w.2)

-- an order of runs passes to another list with the same values
pub order-same : (key : ℕ → ℕ) (l m keys : List ℕ) → StandInOrder key l keys → map key l ≡ map key m → StandInOrder key m keys
order-same key l m keys s e =
    let w = runs-same key l m s.groups s.runs e in
    record { groups = w.0; runs = w.1; order = subst (λ (z : List ℕ). IsTurn z keys) (sym w.2) s.order }

-- to another writing of the cyclic order, and of the keys
pub order-turned : (key : ℕ → ℕ) (l m keys : List ℕ) → StandInOrder key l keys → IsTurn l m → StandInOrder key m keys
order-turned key l m keys s t = record { groups = s.groups; runs = runs-turned key l m s.groups s.runs t; order = s.order }

pub order-rewritten : (key : ℕ → ℕ) (l keys other : List ℕ) → StandInOrder key l keys → IsTurn keys other → StandInOrder key l other
order-rewritten key l keys other s t = record { groups = s.groups; runs = s.runs; order = IsTurn-trans (group_keys s.groups) keys other s.order t }

-- lists of one value, equally long, have the same values
pub one-value : (key : ℕ → ℕ) (c : ℕ) (a b : List ℕ) → ((x : ℕ) → is_member x a ≡ true → key x ≡ c) → ((x : ℕ) → is_member x b ≡ true → key x ≡ c) → length a ≡ length b → map key a ≡ map key b
one-value key c [] [] h k e = refl
one-value key c [] (y ∷ b) h k e = absurd (omega (arith, e))
one-value key c (x ∷ a) [] h k e = absurd (omega (arith, e))
one-value key c (x ∷ a) (y ∷ b) h k e =
    ap₂ ◌∷◌ (h x (member-head x a) ∙ sym (k y (member-head y b)))
    (one-value key c a b (λ z m. h z (member-tail z x a m)) (λ z m. k z (member-tail z y b m)) (omega (arith, e)))

-- a stretch of one key may be exchanged for another one of this key
pub order-exchanged : (key : ℕ → ℕ) (c : ℕ) (a b d keys : List ℕ) → StandInOrder key (a ++ b) keys → ((x : ℕ) → is_member x b ≡ true → key x ≡ c) → ((x : ℕ) → is_member x d ≡ true → key x ≡ c) → length b ≡ length d
    → StandInOrder key (a ++ d) keys
order-exchanged key c a b d keys s h k e = order-same key (a ++ b) (a ++ d) keys s (map-append key a b ∙ ap (λ (z : List ℕ). map key a ++ z) (one-value key c b d h k e) ∙ sym (map-append key a d))

-- what comes again later is left out
pub once-later : (a b : List ℕ) → ((x : ℕ) → is_member x a ≡ true → is_member x b ≡ true) → each_once (a ++ b) ≡ each_once b
once-later [] b h = refl
once-later (x ∷ a) b h =
    let m : is_member x (a ++ b) ≡ true = member-append_right x a b (h x (member-head x a)) in
    ap (λ (z : Bool). cond z (each_once (a ++ b)) (x ∷ each_once (a ++ b))) m ∙ once-later a b (λ y n. h y (member-tail y x a n))

-- a stretch of one value that doesn't come later: the value once
pub once-stretch : (c : ℕ) (a b : List ℕ) → 0 < length a → ((x : ℕ) → is_member x a ≡ true → x ≡ c) → is_member c b ≡ false → each_once (a ++ b) ≡ c ∷ each_once b
once-stretch c [] b l h n = absurd (omega (arith, l))
once-stretch c (x ∷ []) b l h n =
    let e : x ≡ c = h x (member-head x []) in
    ap (λ (z : Bool). cond z (each_once b) (x ∷ each_once b)) (ap (λ z. is_member z b) e ∙ n) ∙ ap (λ z. z ∷ each_once b) e
once-stretch c (x ∷ y ∷ a) b l h n =
    let e : x ≡ c = h x (member-head x (y ∷ a)) in
    let f : y ≡ c = h y (member-tail y x (y ∷ a) (member-head y a)) in
    let m : is_member x ((y ∷ a) ++ b) ≡ true = subst (λ z. is_member z ((y ∷ a) ++ b) ≡ true) (f ∙ sym e) (member-head y (a ++ b)) in
    ap (λ (z : Bool). cond z (each_once ((y ∷ a) ++ b)) (x ∷ each_once ((y ∷ a) ++ b))) m ∙ once-stretch c (y ∷ a) b (omega arith) (λ z k. h z (member-tail z x (y ∷ a) k)) n

-- the values of a group
pub group-values : (key : ℕ → ℕ) (g : ℕ × List ℕ) → IsGroup key g → (x : ℕ) → is_member x (map key g.1) ≡ true → x ≡ g.0
group-values key g a x m = let y = map-member key g.1 x m in sym y.2 ∙ a.same_key y.0 y.1

-- the values of groups are their keys
pub joined-values : (key : ℕ → ℕ) (gs : List (ℕ × List ℕ)) → All (IsGroup key) gs → (x : ℕ) → is_member x (map key (joined gs)) ≡ true → is_member x (group_keys gs) ≡ true
joined-values key gs a x m = let y = map-member key (joined gs) x m in subst (λ z. is_member z (group_keys gs) ≡ true) y.2 (joined-key key gs y.0 a y.1)

-- the values of groups, each once
pub once-joined : (key : ℕ → ℕ) (gs : List (ℕ × List ℕ)) (b : List ℕ) → All (IsGroup key) gs → is_distinct (group_keys gs) ≡ true → ((x : ℕ) → is_member x (group_keys gs) ≡ true → is_member x b ≡ false)
    → each_once (map key (joined gs) ++ b) ≡ group_keys gs ++ each_once b
once-joined key [] b a d n = refl
once-joined key (g ∷ gs) b a d n =
    let own : IsGroup key g = All-head (IsGroup key) g gs a in
    let others : All (IsGroup key) gs = All-tail (IsGroup key) g gs a in
    let new : is_member g.0 (map key (joined gs) ++ b) ≡ false = no_member-append g.0 (map key (joined gs)) b
    (false_from_ne_true (is_member g.0 (map key (joined gs))) (λ m. both_ways (is_member g.0 (group_keys gs)) (distinct-head g.0 (group_keys gs) d) (joined-values key gs others g.0 m)))
    (n g.0 (member-head g.0 (group_keys gs))) in
    ap each_once (ap (λ (z : List ℕ). z ++ b) (map-append key g.1 (joined gs)) ∙ append_assoc (map key g.1) (map key (joined gs)) b)
    ∙ once-stretch g.0 (map key g.1) (map key (joined gs) ++ b) (omega (arith, own.filled, length-map g.1 key)) (group-values key g own) new
    ∙ ap (λ (z : List ℕ). g.0 ∷ z) (once-joined key gs b others (distinct-tail g.0 (group_keys gs) d) (λ x m. n x (member-tail x g.0 (group_keys gs) m)))

-- groups cut anywhere: the cut is before the first member, or behind one of a group
pub joined-cut : (gs : List (ℕ × List ℕ)) (b f : List ℕ) → joined gs ≡ b ++ f
    → (b ≡ []) ⊎ ((us : List (ℕ × List ℕ)) × (g : ℕ × List ℕ) × (vs : List (ℕ × List ℕ)) × (x y : List ℕ) × (gs ≡ us ++ g ∷ vs) × (g.1 ≡ x ++ y) × (0 < length x) × (b ≡ joined us ++ x) × (f ≡ y ++ joined vs))
joined-cut [] [] f e = inl refl
joined-cut [] (z ∷ b) f e = absurd (omega (arith, ap length e))
joined-cut (g ∷ gs) [] f e = inl refl
joined-cut (g ∷ gs) (z ∷ b) f e = elim (append-split g.1 (joined gs) (z ∷ b) f e) [
  | inr w ↦ inr ([], g, gs, z ∷ b, w.0, refl, w.1, omega arith, refl, w.2)
  | inl w ↦ elim (joined-cut gs w.0 f w.2) [
    | inl n ↦ inr (
      [],
      g,
      gs,
      g.1,
      [],
      refl,
      sym (append-nil g.1),
      omega (arith, ap length (w.1 ∙ ap (λ (v : List ℕ). g.1 ++ v) n ∙ append-nil g.1)),
      w.1 ∙ ap (λ (v : List ℕ). g.1 ++ v) n ∙ append-nil g.1,
      sym (w.2 ∙ ap (λ (v : List ℕ). v ++ f) n),
    )
    | inr c ↦ inr (g ∷ c.0, c.1, c.2, c.3, c.4, ap (λ (v : List (ℕ × List ℕ)). g ∷ v) c.5, c.6, c.7, w.1 ∙ ap (λ (v : List ℕ). g.1 ++ v) c.8 ∙ sym (append_assoc g.1 (joined c.0) c.3), c.9)
  ]
]

-- the values of a cyclic order in runs, each once, are the keys of the runs
pub once-runs : (key : ℕ → ℕ) (l : List ℕ) (gs : List (ℕ × List ℕ)) → InRuns key l gs → IsTurn (group_keys gs) (each_once (map key l))
once-runs key l gs r = elim (joined-cut gs r.around.back r.around.front r.around.after) [
  | inl n ↦ subst (IsTurn (group_keys gs)) (sym (whole n)) (IsTurn-refl (group_keys gs))
  | inr c ↦ at c.0 c.1 c.2 c.3 c.4 c.5 c.6 c.7 c.8 c.9
]
  where
    whole : r.around.back ≡ [] → each_once (map key l) ≡ group_keys gs
    whole n =
        let e : l ≡ joined gs = r.around.before ∙ ap (λ (v : List ℕ). r.around.front ++ v) n ∙ append-nil r.around.front ∙ sym (r.around.after ∙ ap (λ (v : List ℕ). v ++ r.around.front) n) in
        ap (λ (v : List ℕ). each_once (map key v)) e ∙ ap each_once (sym (append-nil (map key (joined gs)))) ∙ once-joined key gs [] r.groups r.once (λ x m. refl) ∙ append-nil (group_keys gs)

    at : (us : List (ℕ × List ℕ)) (g : ℕ × List ℕ) (vs : List (ℕ × List ℕ)) (x y : List ℕ) → gs ≡ us ++ g ∷ vs → g.1 ≡ x ++ y → 0 < length x → r.around.back ≡ joined us ++ x → r.around.front ≡ y ++ joined vs
        → IsTurn (group_keys gs) (each_once (map key l))
    at us g vs x y split cut filled back front = record {
      front = group_keys us ++ g.0 ∷ [];
      back = group_keys vs;
      before = ap group_keys split ∙ map-append (λ h. h.0) us (g ∷ vs) ∙ sym (append_assoc (group_keys us) (g.0 ∷ []) (group_keys vs));
      after = ap (λ (v : List ℕ). each_once (map key v)) (r.around.before ∙ ap₂ ◌++◌ front back) ∙ ap each_once values ∙ once-later (map key y) (map key (joined (vs ++ us)) ++ map key x) again
          ∙ once-joined key (vs ++ us) (map key x) others once apart ∙ ap₂ ◌++◌ (map-append (λ h. h.0) vs us) last ∙ append_assoc (group_keys vs) (group_keys us) (g.0 ∷ []);
    }
      where
        t : InRuns key l (g ∷ (vs ++ us))
        t = runs-turn key l gs (g ∷ (vs ++ us)) r (record { front = us; back = g ∷ vs; before = split; after = refl })

        own : IsGroup key g
        own = All-head (IsGroup key) g (vs ++ us) t.groups

        others : All (IsGroup key) (vs ++ us)
        others = All-tail (IsGroup key) g (vs ++ us) t.groups

        once : is_distinct (group_keys (vs ++ us)) ≡ true
        once = distinct-tail g.0 (group_keys (vs ++ us)) t.once

        part : (z : ℕ) → is_member z (map key x) ≡ true → z ≡ g.0
        part z m = group-values key g own z (ap (λ (v : List ℕ). is_member z (map key v)) cut ∙ ap (is_member z) (map-append key x y) ∙ member-append_left z (map key x) (map key y) m)

        there : is_member g.0 (map key x) ≡ true
        there = let w = first-of x filled in subst (λ z. is_member z (map key x) ≡ true) (part (key w.0) (here w.0 w.1 w.2)) (here w.0 w.1 w.2)
          where
            here : (z : ℕ) (v : List ℕ) → x ≡ z ∷ v → is_member (key z) (map key x) ≡ true
            here z v e = ap (λ (u : List ℕ). is_member (key z) (map key u)) e ∙ member-head (key z) (map key v)

        again : (z : ℕ) → is_member z (map key y) ≡ true → is_member z (map key (joined (vs ++ us)) ++ map key x) ≡ true
        again z m = member-append_right z (map key (joined (vs ++ us))) (map key x) (subst (λ u. is_member u (map key x) ≡ true)
            (sym (group-values key g own z (ap (λ (v : List ℕ). is_member z (map key v)) cut ∙ ap (is_member z) (map-append key x y) ∙ member-append_right z (map key x) (map key y) m))) there)

        apart : (z : ℕ) → is_member z (group_keys (vs ++ us)) ≡ true → is_member z (map key x) ≡ false
        apart z m = false_from_ne_true (is_member z (map key x)) (λ n. both_ways (is_member g.0 (group_keys (vs ++ us))) (distinct-head g.0 (group_keys (vs ++ us)) t.once) (subst (λ u. is_member u (group_keys (vs ++ us)) ≡ true) (part z n) m))

        last : each_once (map key x) ≡ g.0 ∷ []
        last = ap each_once (sym (append-nil (map key x))) ∙ once-stretch g.0 (map key x) [] (omega (arith, filled, length-map x key)) part refl

        values : map key ((y ++ joined vs) ++ (joined us ++ x)) ≡ map key y ++ (map key (joined (vs ++ us)) ++ map key x)
        values = ap (map key) (append_assoc y (joined vs) (joined us ++ x) ∙ ap (λ (v : List ℕ). y ++ v) (sym (append_assoc (joined vs) (joined us) x) ∙ ap (λ (v : List ℕ). v ++ x) (sym (joined-append vs us))))
            ∙ map-append key y (joined (vs ++ us) ++ x) ∙ ap (λ (v : List ℕ). map key y ++ v) (map-append key (joined (vs ++ us)) x)

-- the keys met are those of the runs
pub met-runs : (key : ℕ → ℕ) (l : List ℕ) (gs : List (ℕ × List ℕ)) → InRuns key l gs → keys_met key l ≡ from_least (group_keys gs)
met-runs key l gs r = sym (from_least-same (group_keys gs) (each_once (map key l)) (once-runs key l gs r) r.once)

pub met-order : (key : ℕ → ℕ) (l keys : List ℕ) → StandInOrder key l keys → keys_met key l ≡ from_least keys
met-order key l keys s = met-runs key l s.groups s.runs ∙ from_least-same (group_keys s.groups) keys s.order s.runs.once

-- a cyclic order in runs stands in the order of the keys met
pub order-met : (key : ℕ → ℕ) (l : List ℕ) (gs : List (ℕ × List ℕ)) → InRuns key l gs → StandInOrder key l (keys_met key l)
order-met key l gs r = record { groups = gs; runs = r; order = subst (IsTurn (group_keys gs)) (sym (met-runs key l gs r)) (from_least-turn (group_keys gs)) }

-- a member with another key than the one that it follows has the key that follows
pub order-successor : (key : ℕ → ℕ) (l keys : List ℕ) (e : ℕ) → is_distinct l ≡ true → StandInOrder key l keys → is_member e l ≡ true → key (successor l e) ≢ key e → key (successor l e) ≡ successor keys (key e)
order-successor key l keys e d s m n = at (joined-member s.groups e (IsTurn-member l (joined s.groups) e s.runs.around ∙ m))
  where
    at : (us : List (ℕ × List ℕ)) × (g : ℕ × List ℕ) × (vs : List (ℕ × List ℕ)) × (s.groups ≡ us ++ g ∷ vs) × (is_member e g.1 ≡ true) → key (successor l e) ≡ successor keys (key e)
    at w = next c.back (vs ++ us) c.is refl
      where
        us : List (ℕ × List ℕ)
        us = w.0

        g : ℕ × List ℕ
        g = w.1

        vs : List (ℕ × List ℕ)
        vs = w.2

        t : InRuns key l (g ∷ (vs ++ us))
        t = runs-turn key l s.groups (g ∷ (vs ++ us)) s.runs (record { front = us; back = g ∷ vs; before = w.3; after = refl })

        own : IsGroup key g
        own = All-head (IsGroup key) g (vs ++ us) t.groups

        keyed : key e ≡ g.0
        keyed = own.same_key e w.4

        turned : IsTurn (g.0 ∷ group_keys (vs ++ us)) keys
        turned = IsTurn-trans (g.0 ∷ group_keys (vs ++ us)) (group_keys s.groups) keys (IsTurn-sym (group_keys s.groups) (g.0 ∷ group_keys (vs ++ us)) (IsTurn-map (λ h. h.0) s.groups (g ∷ (vs ++ us)) (record { front = us; back = g ∷ vs; before = w.3; after = refl }))) s.order

        c : CutAt e g.1
        c = cut_at e g.1 w.4

        list : (y : List ℕ) → g.1 ≡ c.front ++ e ∷ y → successor l e ≡ first_or (first_or e c.front) (y ++ joined (vs ++ us))
        list y q =
            let whole : g.1 ++ joined (vs ++ us) ≡ c.front ++ e ∷ (y ++ joined (vs ++ us)) = ap (λ (v : List ℕ). v ++ joined (vs ++ us)) q ∙ append_assoc c.front (e ∷ y) (joined (vs ++ us)) in
            sym (IsTurn-successor l (joined (g ∷ (vs ++ us))) e t.around d) ∙ ap (λ (v : List ℕ). successor v e) whole ∙ successor-cut c.front e (y ++ joined (vs ++ us)) c.first

        -- a member of the same group has the same key
        within : (z : ℕ) → successor l e ≡ z → is_member z g.1 ≡ true → ⊥
        within z q i = n (ap key q ∙ own.same_key z i ∙ sym keyed)

        next : (y : List ℕ) (rest : List (ℕ × List ℕ)) → g.1 ≡ c.front ++ e ∷ y → vs ++ us ≡ rest → key (successor l e) ≡ successor keys (key e)
        next (z ∷ y) rest q p = absurd (within z (list (z ∷ y) q) (ap (is_member z) q ∙ member-append_right z c.front (e ∷ z ∷ y) (member-tail z e (z ∷ y) (member-head z y))))
        next [] [] q p = absurd (within (first_or e c.front) (list [] q ∙ ap (λ (v : List (ℕ × List ℕ)). first_or (first_or e c.front) (joined v)) p)
            (ap (is_member (first_or e c.front)) q ∙ front c.front))
          where
            front : (a : List ℕ) → is_member (first_or e a) (a ++ e ∷ []) ≡ true
            front [] = member-head e []
            front (x ∷ a) = member-head x (a ++ e ∷ [])
        next [] (h ∷ rest) q p = ap key (list [] q ∙ first) ∙ (there.same_key f.0 (ap (is_member f.0) f.2 ∙ member-head f.0 f.1)) ∙ sym follows
          where
            there : IsGroup key h
            there = All-head (IsGroup key) h rest (subst (All (IsGroup key)) p (All-tail (IsGroup key) g (vs ++ us) t.groups))

            f : (x : ℕ) × (r : List ℕ) × (h.1 ≡ x ∷ r)
            f = first-of h.1 there.filled

            first : first_or (first_or e c.front) (joined (vs ++ us)) ≡ f.0
            first = ap (λ (v : List (ℕ × List ℕ)). first_or (first_or e c.front) (joined v)) p ∙ ap (λ (v : List ℕ). first_or (first_or e c.front) (v ++ joined rest)) f.2

            follows : successor keys (key e) ≡ h.0
            follows = ap (successor keys) keyed ∙ IsTurn-successor (g.0 ∷ group_keys (vs ++ us)) keys g.0 turned t.once
                ∙ ap (λ (v : List (ℕ × List ℕ)). successor (g.0 ∷ group_keys v) g.0) p ∙ successor-cut [] g.0 (h.0 ∷ group_keys rest) refl
