-- Cyclic orders cut into runs: the cut is unique but for where it begins; runs turned, filtered and reversed.
use Rattle.std.proofs.Common.{◌≡◌, ◌≢◌, ℕ, ◌<◌, inl, inr, Bool, true, ◌==◌, List, [], ◌∷◌, ◌++◌, length, map, filter, reverse, refl, sym, ap, ap₂, ◌∙◌, subst, arith, append_assoc, append-nil, All}
use Rattle.std.proofs.lemmas.Bool.{both_ways, true≢false}
use Rattle.std.proofs.lemmas.List.{reverse-append, map-append, length-append, length-reverse}
use Rattle.std.proofs.lemmas.List.Elements.{All-head, All-tail, All-weaker, All-map, filter-append}
use Rattle.std.proofs.lemmas.List.Sorted.{All-permutation, IsPermutation-reverse}
use Rattle.permutations.specs.Members.{is_member, is_distinct}
use Rattle.permutations.specs.Cyclic.{first_or, successor, turned, IsTurn}
use Rattle.permutations.specs.Runs.{joined, group_keys, IsGroup, InRuns, mirrored}
use Rattle.permutations.proofs.Relation.{same-tests}
use Rattle.permutations.proofs.Members.{member-head, member-tail, member-append_left, member-append_right, member-append_cases, member-reverse, distinct-head, distinct-tail, distinct-append_left, distinct-append_right, distinct-append_apart, distinct-reverse, CutAt, cut_at}
use Rattle.permutations.proofs.Successor.{successor-cut}
use Rattle.permutations.proofs.Turned.{turned-first, IsTurn-sym, IsTurn-member, IsTurn-distinct, IsTurn-successor, IsTurn-permutation, IsTurn-reverse, IsTurn-map, IsTurn-filter}
use Rattle.permutations.proofs.CyclicSame.{append-split, IsTurn-trans, IsTurn-head}
use Rattle.permutations.proofs.Chains.{apart-front, successor-last}

-- a list that is not empty has a first member
pub first-of : (l : List ℕ) → 0 < length l → (x : ℕ) × (r : List ℕ) × (l ≡ x ∷ r)
first-of [] h = absurd (omega arith)
first-of (x ∷ r) h = (x, r, refl)

-- a list that is not empty has a last member
pub last-of : (l : List ℕ) → 0 < length l → (c : List ℕ) × (q : ℕ) × (l ≡ c ++ q ∷ [])
last-of [] h = absurd (omega arith)
last-of (x ∷ []) h = ([], x, refl)
last-of (x ∷ y ∷ r) h = let w : (c : List ℕ) × (q : ℕ) × (y ∷ r ≡ c ++ q ∷ []) = last-of (y ∷ r) (omega arith) in (x ∷ w.0, w.1, ap (λ (v : List ℕ). x ∷ v) w.2)

-- a front that has all the members of a longer one is as long
nothing-more : (a e c d : List ℕ) → c ≡ a ++ e → is_distinct (c ++ d) ≡ true → ((z : ℕ) → is_member z a ≡ is_member z c) → e ≡ []
nothing-more a [] c d q h m = refl
nothing-more a (x ∷ v) c d q h m = absurd (both_ways (is_member x (x ∷ v))
    (distinct-append_apart a (x ∷ v) (subst (λ (l : List ℕ). is_distinct l ≡ true) q (distinct-append_left c d h)) x
    (m x ∙ ap (is_member x) q ∙ member-append_right x a (x ∷ v) (member-head x v)))
    (member-head x v))

-- one list without repetition cut in two ways, with fronts of the same members, is cut in one way
pub cut-same : (a b c d : List ℕ) → is_distinct (a ++ b) ≡ true → a ++ b ≡ c ++ d → ((z : ℕ) → is_member z a ≡ is_member z c) → (a ≡ c) × (b ≡ d)
cut-same a b c d h e m = elim (append-split a b c d e) [
  | inl w ↦ let n : w.0 ≡ [] = nothing-more a w.0 c d w.1 (subst (λ (v : List ℕ). is_distinct v ≡ true) e h) m in
      (sym (w.1 ∙ ap (λ (v : List ℕ). a ++ v) n ∙ append-nil a), w.2 ∙ ap (λ (v : List ℕ). v ++ d) n)
  | inr w ↦ let n : w.0 ≡ [] = nothing-more c w.0 a b w.1 h (λ z. sym (m z)) in
      (w.1 ∙ ap (λ (v : List ℕ). c ++ v) n ∙ append-nil c, sym (w.2 ∙ ap (λ (v : List ℕ). v ++ b) n))
]

-- two cyclic orders that are one, each of two parts with the same members, have the same parts
pub cut-unique : (a b c d : List ℕ) → is_distinct (a ++ b) ≡ true → IsTurn (a ++ b) (c ++ d) → 0 < length a → 0 < length b
    → ((z : ℕ) → is_member z a ≡ is_member z c) → ((z : ℕ) → is_member z b ≡ is_member z d) → (a ≡ c) × (b ≡ d)
cut-unique [] b c d h t la lb ma mb = absurd (omega arith)
cut-unique (x ∷ r) b [] d h t la lb ma mb = absurd (both_ways (is_member x (x ∷ r)) (ma x) (member-head x r))
cut-unique (x ∷ r) b (y ∷ s) d h t la lb ma mb = cut-same (x ∷ r) b (y ∷ s) d h whole ma
  where
    v : (c : List ℕ) × (q : ℕ) × (b ≡ c ++ q ∷ [])
    v = last-of b lb

    q : ℕ
    q = v.1

    qb : is_member q b ≡ true
    qb = ap (is_member q) v.2 ∙ member-append_right q v.0 (q ∷ []) (member-head q [])

    hd : is_distinct ((y ∷ s) ++ d) ≡ true
    hd = IsTurn-distinct ((x ∷ r) ++ b) ((y ∷ s) ++ d) t h

    ending : (x ∷ r) ++ b ≡ ((x ∷ r) ++ v.0) ++ q ∷ []
    ending = ap (λ (l : List ℕ). (x ∷ r) ++ l) v.2 ∙ sym (append_assoc (x ∷ r) v.0 (q ∷ []))

    here : successor ((x ∷ r) ++ b) q ≡ x
    here = ap (λ (l : List ℕ). successor l q) ending ∙ successor-last ((x ∷ r) ++ v.0) q (subst (λ (l : List ℕ). is_distinct l ≡ true) ending h)

    k : CutAt q d
    k = cut_at q d (sym (mb q) ∙ qb)

    beside : (y ∷ s) ++ d ≡ ((y ∷ s) ++ k.front) ++ q ∷ k.back
    beside = ap (λ (l : List ℕ). (y ∷ s) ++ l) k.is ∙ sym (append_assoc (y ∷ s) k.front (q ∷ k.back))

    there : successor ((y ∷ s) ++ d) q ≡ first_or y k.back
    there = ap (λ (l : List ℕ). successor l q) beside
        ∙ successor-cut ((y ∷ s) ++ k.front) q k.back (apart-front ((y ∷ s) ++ k.front) q k.back (subst (λ (l : List ℕ). is_distinct l ≡ true) beside hd))

    first : (e : List ℕ) → d ≡ k.front ++ q ∷ e → x ≡ first_or y e → x ≡ y
    first [] i j = j
    first (z ∷ e) i j = absurd (both_ways (is_member x b) (distinct-append_apart (x ∷ r) b h x (member-head x r))
        (mb x ∙ ap (is_member x) i ∙ member-append_right x k.front (q ∷ z ∷ e) (member-tail x q (z ∷ e) (subst (λ (u : ℕ). is_member u (z ∷ e) ≡ true) (sym j) (member-head z e)))))

    same : x ≡ y
    same = first k.back k.is (sym here ∙ sym (IsTurn-successor ((x ∷ r) ++ b) ((y ∷ s) ++ d) q t h) ∙ there)

    whole : (x ∷ r) ++ b ≡ (y ∷ s) ++ d
    whole = sym (turned-first x (r ++ b)) ∙ ap (turned (x ∷ (r ++ b))) same ∙ IsTurn-head (x ∷ (r ++ b)) y (s ++ d) t h

-- groups one after the other
pub joined-append : (gs hs : List (ℕ × List ℕ)) → joined (gs ++ hs) ≡ joined gs ++ joined hs
joined-append [] hs = refl
joined-append (g ∷ gs) hs = ap (λ (v : List ℕ). g.1 ++ v) (joined-append gs hs) ∙ sym (append_assoc g.1 (joined gs) (joined hs))

-- groups turned
pub joined-turn : (gs hs : List (ℕ × List ℕ)) → IsTurn gs hs → IsTurn (joined gs) (joined hs)
joined-turn gs hs t = record { front = joined t.front; back = joined t.back; before = ap joined t.before ∙ joined-append t.front t.back; after = ap joined t.after ∙ joined-append t.back t.front }

-- a member of the groups is in one of them
pub joined-member : (gs : List (ℕ × List ℕ)) (x : ℕ) → is_member x (joined gs) ≡ true → (us : List (ℕ × List ℕ)) × (g : ℕ × List ℕ) × (vs : List (ℕ × List ℕ)) × (gs ≡ us ++ g ∷ vs) × (is_member x g.1 ≡ true)
joined-member [] x m = absurd (true≢false (sym m))
joined-member (g ∷ gs) x m = elim (member-append_cases x g.1 (joined gs) m) [
  | inl i ↦ ([], g, gs, refl, i)
  | inr i ↦ let w = joined-member gs x i in (g ∷ w.0, w.1, w.2, ap (λ (v : List (ℕ × List ℕ)). g ∷ v) w.3, w.4)
]

-- the key of a member is the key of a group
pub joined-key : (key : ℕ → ℕ) (gs : List (ℕ × List ℕ)) (x : ℕ) → All (IsGroup key) gs → is_member x (joined gs) ≡ true → is_member (key x) (group_keys gs) ≡ true
joined-key key [] x a m = absurd (true≢false (sym m))
joined-key key (g ∷ gs) x a m = elim (member-append_cases x g.1 (joined gs) m) [
  | inl i ↦ subst (λ (k : ℕ). is_member k (g.0 ∷ group_keys gs) ≡ true) (sym ((All-head (IsGroup key) g gs a).same_key x i)) (member-head g.0 (group_keys gs))
  | inr i ↦ member-tail (key x) g.0 (group_keys gs) (joined-key key gs x (All-tail (IsGroup key) g gs a) i)
]

-- of the members the first group holds those with its key
pub first-group : (key : ℕ → ℕ) (g : ℕ × List ℕ) (gs : List (ℕ × List ℕ)) (x : ℕ) → is_distinct (group_keys (g ∷ gs)) ≡ true → All (IsGroup key) (g ∷ gs) → is_member x (joined (g ∷ gs)) ≡ true → key x ≡ g.0 → is_member x g.1 ≡ true
first-group key g gs x h a m e = elim (member-append_cases x g.1 (joined gs) m) [
  | inl i ↦ i
  | inr i ↦ absurd (both_ways (is_member g.0 (group_keys gs)) (distinct-head g.0 (group_keys gs) h) (subst (λ (k : ℕ). is_member k (group_keys gs) ≡ true) e (joined-key key gs x (All-tail (IsGroup key) g gs a) i)))
]

-- and the other groups hold those with other keys
pub other-groups : (key : ℕ → ℕ) (g : ℕ × List ℕ) (gs : List (ℕ × List ℕ)) (x : ℕ) → is_distinct (group_keys (g ∷ gs)) ≡ true → All (IsGroup key) (g ∷ gs) → is_member x (joined gs) ≡ true → key x ≢ g.0
other-groups key g gs x h a i e = both_ways (is_member g.0 (group_keys gs)) (distinct-head g.0 (group_keys gs) h) (subst (λ (k : ℕ). is_member k (group_keys gs) ≡ true) e (joined-key key gs x (All-tail (IsGroup key) g gs a) i))

-- of two cuts of the same members, with first groups of one key, the first groups have the same members
front-into : (key : ℕ → ℕ) (g : ℕ × List ℕ) (gs : List (ℕ × List ℕ)) (f : ℕ × List ℕ) (hs : List (ℕ × List ℕ)) → is_distinct (group_keys (f ∷ hs)) ≡ true → All (IsGroup key) (g ∷ gs) → All (IsGroup key) (f ∷ hs)
    → ((z : ℕ) → is_member z (joined (g ∷ gs)) ≡ is_member z (joined (f ∷ hs))) → g.0 ≡ f.0 → (z : ℕ) → is_member z g.1 ≡ true → is_member z f.1 ≡ true
front-into key g gs f hs k a b m e z i = first-group key f hs z k b (sym (m z) ∙ member-append_left z g.1 (joined gs) i) ((All-head (IsGroup key) g gs a).same_key z i ∙ e)

-- and the other groups have the same members
rest-into : (key : ℕ → ℕ) (g : ℕ × List ℕ) (gs : List (ℕ × List ℕ)) (f : ℕ × List ℕ) (hs : List (ℕ × List ℕ)) → is_distinct (group_keys (g ∷ gs)) ≡ true → All (IsGroup key) (g ∷ gs) → All (IsGroup key) (f ∷ hs)
    → ((z : ℕ) → is_member z (joined (g ∷ gs)) ≡ is_member z (joined (f ∷ hs))) → g.0 ≡ f.0 → (z : ℕ) → is_member z (joined gs) ≡ true → is_member z (joined hs) ≡ true
rest-into key g gs f hs h a b m e z i = elim (member-append_cases z f.1 (joined hs) (sym (m z) ∙ member-append_right z g.1 (joined gs) i)) [
  | inr j ↦ j
  | inl j ↦ absurd (other-groups key g gs z h a i ((All-head (IsGroup key) f hs b).same_key z j ∙ sym e))
]

-- where two cuts make one list, the first groups are equal, and what the others make
heads-same : (key : ℕ → ℕ) (g : ℕ × List ℕ) (gs : List (ℕ × List ℕ)) (f : ℕ × List ℕ) (hs : List (ℕ × List ℕ)) → is_distinct (joined (g ∷ gs)) ≡ true → is_distinct (group_keys (g ∷ gs)) ≡ true → is_distinct (group_keys (f ∷ hs)) ≡ true
    → All (IsGroup key) (g ∷ gs) → All (IsGroup key) (f ∷ hs) → joined (g ∷ gs) ≡ joined (f ∷ hs) → (g ≡ f) × (joined gs ≡ joined hs)
heads-same key g gs f hs d h k a b e = ((λ i. (keys i, cut.0 i)), cut.1)
  where
    u : (x : ℕ) × (r : List ℕ) × (g.1 ≡ x ∷ r)
    u = first-of g.1 (All-head (IsGroup key) g gs a).filled

    v : (x : ℕ) × (r : List ℕ) × (f.1 ≡ x ∷ r)
    v = first-of f.1 (All-head (IsGroup key) f hs b).filled

    heads : u.0 ≡ v.0
    heads = ap (first_or 0) (sym (ap (λ (l : List ℕ). l ++ joined gs) u.2) ∙ e ∙ ap (λ (l : List ℕ). l ++ joined hs) v.2)

    keys : g.0 ≡ f.0
    keys = sym ((All-head (IsGroup key) g gs a).same_key u.0 (ap (is_member u.0) u.2 ∙ member-head u.0 u.1)) ∙ ap key heads ∙ (All-head (IsGroup key) f hs b).same_key v.0 (ap (is_member v.0) v.2 ∙ member-head v.0 v.1)

    cut : (g.1 ≡ f.1) × (joined gs ≡ joined hs)
    cut = cut-same g.1 (joined gs) f.1 (joined hs) d e (λ z. same-tests (is_member z g.1) (is_member z f.1)
        (front-into key g gs f hs k a b (λ y. ap (is_member y) e) keys z)
        (front-into key f hs g gs h b a (λ y. ap (is_member y) (sym e)) (sym keys) z))

-- one list cut into groups in two ways is cut in one way
pub joined-unique : (key : ℕ → ℕ) (gs hs : List (ℕ × List ℕ)) → is_distinct (joined gs) ≡ true → is_distinct (group_keys gs) ≡ true → is_distinct (group_keys hs) ≡ true → All (IsGroup key) gs → All (IsGroup key) hs → joined gs ≡ joined hs → gs ≡ hs
joined-unique key [] [] d h k a b e = refl
joined-unique key [] (g ∷ gs) d h k a b e = absurd (omega (arith, ap length e, length-append g.1 (joined gs), (All-head (IsGroup key) g gs b).filled))
joined-unique key (g ∷ gs) [] d h k a b e = absurd (omega (arith, ap length e, length-append g.1 (joined gs), (All-head (IsGroup key) g gs a).filled))
joined-unique key (g ∷ gs) (f ∷ hs) d h k a b e =
    let w : (g ≡ f) × (joined gs ≡ joined hs) = heads-same key g gs f hs d h k a b e in
    ap₂ ◌∷◌ w.0 (joined-unique key gs hs (distinct-append_right g.1 (joined gs) d) (distinct-tail g.0 (group_keys gs) h) (distinct-tail f.0 (group_keys hs) k) (All-tail (IsGroup key) g gs a) (All-tail (IsGroup key) f hs b) w.1)

-- groups may be begun with any of them
pub runs-turn : (key : ℕ → ℕ) (l : List ℕ) (gs hs : List (ℕ × List ℕ)) → InRuns key l gs → IsTurn gs hs → InRuns key l hs
runs-turn key l gs hs r t = record {
  once = IsTurn-distinct (group_keys gs) (group_keys hs) (IsTurn-map (λ g. g.0) gs hs t) r.once;
  groups = All-permutation (IsGroup key) gs hs (IsTurn-permutation gs hs t) r.groups;
  around = IsTurn-trans l (joined gs) (joined hs) r.around (joined-turn gs hs t);
}

-- the cyclic order may be begun with any member
pub runs-turned : (key : ℕ → ℕ) (l m : List ℕ) (gs : List (ℕ × List ℕ)) → InRuns key l gs → IsTurn l m → InRuns key m gs
runs-turned key l m gs r t = record { once = r.once; groups = r.groups; around = IsTurn-trans m l (joined gs) (IsTurn-sym l m t) r.around }

-- a cyclic order with at least two keys is cut into runs in one way, but for the group that is begun with
pub runs-unique : (key : ℕ → ℕ) (l : List ℕ) (gs hs : List (ℕ × List ℕ)) → is_distinct l ≡ true → InRuns key l gs → InRuns key l hs → 1 < length gs → IsTurn gs hs
runs-unique key l [] hs d r s n = absurd (omega arith)
runs-unique key l (g ∷ []) hs d r s n = absurd (omega arith)
runs-unique key l (g ∷ j ∷ js) hs d r s n = at (joined-member hs x (sym (same x) ∙ ap (λ (v : List ℕ). is_member x (v ++ joined gs)) u.2 ∙ member-head x (u.1 ++ joined gs)))
  where
    gs : List (ℕ × List ℕ)
    gs = j ∷ js

    a : All (IsGroup key) (g ∷ gs)
    a = r.groups

    u : (x : ℕ) × (r : List ℕ) × (g.1 ≡ x ∷ r)
    u = first-of g.1 (All-head (IsGroup key) g gs a).filled

    x : ℕ
    x = u.0

    same : (z : ℕ) → is_member z (joined (g ∷ gs)) ≡ is_member z (joined hs)
    same z = IsTurn-member l (joined (g ∷ gs)) z r.around ∙ sym (IsTurn-member l (joined hs) z s.around)

    dg : is_distinct (joined (g ∷ gs)) ≡ true
    dg = IsTurn-distinct l (joined (g ∷ gs)) r.around d

    at : (us : List (ℕ × List ℕ)) × (f : ℕ × List ℕ) × (vs : List (ℕ × List ℕ)) × (hs ≡ us ++ f ∷ vs) × (is_member x f.1 ≡ true) → IsTurn (g ∷ gs) hs
    at w = record { front = f ∷ vs; back = us; before = ap₂ ◌∷◌ heads rests; after = w.3 }
      where
        us : List (ℕ × List ℕ)
        us = w.0

        f : ℕ × List ℕ
        f = w.1

        vs : List (ℕ × List ℕ)
        vs = w.2

        t : InRuns key l (f ∷ (vs ++ us))
        t = runs-turn key l hs (f ∷ (vs ++ us)) s (record { front = us; back = f ∷ vs; before = w.3; after = refl })

        b : All (IsGroup key) (f ∷ (vs ++ us))
        b = t.groups

        keys : g.0 ≡ f.0
        keys = sym ((All-head (IsGroup key) g gs a).same_key x (ap (is_member x) u.2 ∙ member-head x u.1)) ∙ (All-head (IsGroup key) f (vs ++ us) b).same_key x w.4

        alike : (z : ℕ) → is_member z (joined (g ∷ gs)) ≡ is_member z (joined (f ∷ (vs ++ us)))
        alike z = IsTurn-member l (joined (g ∷ gs)) z r.around ∙ sym (IsTurn-member l (joined (f ∷ (vs ++ us))) z t.around)

        cut : (g.1 ≡ f.1) × (joined gs ≡ joined (vs ++ us))
        cut = cut-unique g.1 (joined gs) f.1 (joined (vs ++ us)) dg
            (IsTurn-trans (joined (g ∷ gs)) l (joined (f ∷ (vs ++ us))) (IsTurn-sym l (joined (g ∷ gs)) r.around) t.around)
            (All-head (IsGroup key) g gs a).filled
            (omega (arith, length-append j.1 (joined js), (All-head (IsGroup key) j js (All-tail (IsGroup key) g gs a)).filled))
            (λ z. same-tests (is_member z g.1) (is_member z f.1)
            (front-into key g gs f (vs ++ us) t.once a b alike keys z)
            (front-into key f (vs ++ us) g gs r.once b a (λ y. sym (alike y)) (sym keys) z))
            (λ z. same-tests (is_member z (joined gs)) (is_member z (joined (vs ++ us)))
            (rest-into key g gs f (vs ++ us) r.once a b alike keys z)
            (rest-into key f (vs ++ us) g gs t.once b a (λ y. sym (alike y)) (sym keys) z))

        heads : g ≡ f
        heads = λ i. (keys i, cut.0 i)

        rests : gs ≡ vs ++ us
        rests = joined-unique key gs (vs ++ us) (distinct-append_right g.1 (joined gs) dg) (distinct-tail g.0 (group_keys gs) r.once) (distinct-tail f.0 (group_keys (vs ++ us)) t.once) (All-tail (IsGroup key) g gs a) (All-tail (IsGroup key) f (vs ++ us) b) cut.1

-- one member picked from each group: those picked, on the way round, stand in the order of the groups
pub runs-picked : (key : ℕ → ℕ) (l : List ℕ) (gs : List (ℕ × List ℕ)) (p : ℕ → Bool) (pick : ℕ × List ℕ → ℕ) → InRuns key l gs → All (λ g. filter p g.1 ≡ pick g ∷ []) gs → IsTurn (filter p l) (map pick gs)
runs-picked key l gs p pick r a = subst (IsTurn (filter p l)) (picked gs a) (IsTurn-filter p l (joined gs) r.around)
  where
    picked : (gs : List (ℕ × List ℕ)) → All (λ g. filter p g.1 ≡ pick g ∷ []) gs → filter p (joined gs) ≡ map pick gs
    picked [] a = refl
    picked (g ∷ gs) a = filter-append p g.1 (joined gs) ∙ ap (λ (v : List ℕ). v ++ filter p (joined gs)) (All-head (λ g. filter p g.1 ≡ pick g ∷ []) g gs a) ∙ ap (λ (v : List ℕ). pick g ∷ v) (picked gs (All-tail (λ g. filter p g.1 ≡ pick g ∷ []) g gs a))

-- the groups in the opposite order, each written backwards, make the whole written backwards
pub joined-mirrored : (gs : List (ℕ × List ℕ)) → joined (reverse (map mirrored gs)) ≡ reverse (joined gs)
joined-mirrored [] = refl
joined-mirrored (g ∷ gs) =
    ap joined (reverse-append (mirrored g ∷ []) (map mirrored gs))
    ∙ joined-append (reverse (map mirrored gs)) (mirrored g ∷ [])
    ∙ ap (λ (v : List ℕ). v ++ (reverse g.1 ++ [])) (joined-mirrored gs)
    ∙ ap (λ (v : List ℕ). reverse (joined gs) ++ v) (append-nil (reverse g.1))
    ∙ sym (reverse-append g.1 (joined gs))

-- the keys of the groups in the opposite order
pub keys-mirrored : (gs : List (ℕ × List ℕ)) → group_keys (reverse (map mirrored gs)) ≡ reverse (group_keys gs)
keys-mirrored [] = refl
keys-mirrored (g ∷ gs) =
    ap group_keys (reverse-append (mirrored g ∷ []) (map mirrored gs))
    ∙ map-append (λ k. k.0) (reverse (map mirrored gs)) (mirrored g ∷ [])
    ∙ ap (λ (v : List ℕ). v ++ g.0 ∷ []) (keys-mirrored gs)
    ∙ sym (reverse-append (g.0 ∷ []) (group_keys gs))

-- the mirror of a cyclic order in runs is in runs: the groups in the opposite order, each written backwards
pub runs-mirrored : (key : ℕ → ℕ) (l : List ℕ) (gs : List (ℕ × List ℕ)) → InRuns key l gs → InRuns key (reverse l) (reverse (map mirrored gs))
runs-mirrored key l gs r = record {
  once = subst (λ (v : List ℕ). is_distinct v ≡ true) (sym (keys-mirrored gs)) (distinct-reverse (group_keys gs) r.once);
  groups = All-permutation (IsGroup key) (map mirrored gs) (reverse (map mirrored gs)) (IsPermutation-reverse (map mirrored gs))
      (All-map (IsGroup key) mirrored gs (All-weaker (IsGroup key) (λ g. IsGroup key (mirrored g)) (λ g h. record {
        filled = omega (arith, h.filled, length-reverse g.1);
        same_key = λ x m. h.same_key x (sym (member-reverse x g.1) ∙ m);
      }) gs r.groups));
  around = subst (IsTurn (reverse l)) (sym (joined-mirrored gs)) (IsTurn-reverse l (joined gs) r.around);
}
