-- Cyclic orders whose groups stand in another order, each group as it was: what comes of it is determined, and other keys see
-- nothing of it. (Lemmas on lists alone: they belong to permutations.)
use Rattle.std.proofs.Common.{◌≡◌, ◌≢◌, ℕ, ◌<◌, ◌≤◌, ◌==◌, inl, inr, true, false, List, [], ◌∷◌, ◌++◌, length, map, filter, reverse, slice_index_or, refl, sym, ap, ◌∙◌, subst, arith, All, IsPermutation}
use Rattle.std.proofs.lemmas.Bool.{cases_Bool, cases_lt, both_ways, true≢false, eq-eqb, eqb-true, false_from_ne_true}
use Rattle.std.proofs.lemmas.List.{get_or-map, get_or_default, length-map, same_lists, length-append, map-append, reverse-append}
use Rattle.std.proofs.lemmas.List.Elements.{All-nil, All-cons, All-head, All-tail, All-from_get_or, All-get_or}
use Rattle.std.proofs.lemmas.List.Sorted.{All-permutation, IsPermutation-map, IsPermutation-reverse, IsPermutation-sym, IsPermutation-trans, length_permutation}
use Rattle.permutations.specs.Cyclic.{IsTurn}
use Rattle.permutations.specs.Members.{is_member, is_distinct}
use Rattle.permutations.specs.Runs.{joined, group_keys, IsGroup, InRuns}
use Rattle.permutations.proofs.Arrangements.{permutation-member, permutation-distinct, permutation-from_members}
use Rattle.permutations.proofs.CyclicSame.{IsTurn-trans}
use Rattle.permutations.proofs.Filter.{member-filter_parts, filter-member, distinct-filter}
use Rattle.permutations.proofs.Relation.{same-tests}
use Rattle.permutations.proofs.Members.{member-head, member-tail, member-cases, no_member-head, no_member-tail, member-append_cases, member-append_left, member-append_right, distinct-head, distinct-tail, distinct-append, distinct-reverse}
use Rattle.permutations.proofs.Runs.{first-of, joined-turn, joined-key, other-groups, runs-turn, runs-unique}
use Rattle.permutations.proofs.RunsByKey.{groups-by_key, keys-member}
use Rattle.permutations.proofs.Turned.{IsTurn-refl, IsTurn-sym, IsTurn-member, IsTurn-distinct, IsTurn-reverse, IsTurn-length, IsTurn-permutation}
use Rattle.permutations.proofs.Places.{same-place}
use Rattle.skeletons.specs.Moves.{AreReversed, AreRegrouped}
use Rattle.skeletons.specs.Families.{StandInOrder}
use Rattle.skeletons.proofs.KeyRuns.{order-turned, order-exchanged}

-- the same groups, in some order
pub record AreRearranged (key : ℕ → ℕ) (l m : List ℕ) : Type 0 where
  pub before : List (ℕ × List ℕ)
  pub after : List (ℕ × List ℕ)
  pub runs_before : InRuns key l before
  pub runs_after : InRuns key m after
  pub same_groups : IsPermutation before after

pub reversed-rearranged : (key : ℕ → ℕ) (l m : List ℕ) → AreReversed key l m → AreRearranged key l m
reversed-rearranged key l m r = record { before = r.groups; after = reverse r.groups; runs_before = r.before; runs_after = r.after; same_groups = IsPermutation-reverse r.groups }

pub regrouped-rearranged : (key : ℕ → ℕ) (l keys m : List ℕ) → AreRegrouped key l keys m → AreRearranged key l m
regrouped-rearranged key l keys m r = record { before = r.before; after = r.after; runs_before = r.runs_before; runs_after = r.runs_after; same_groups = r.same_groups }

-- a key is that of a group
pub group-with : (a : ℕ) (gs : List (ℕ × List ℕ)) → is_member a (group_keys gs) ≡ true → (us : List (ℕ × List ℕ)) × (g : ℕ × List ℕ) × (vs : List (ℕ × List ℕ)) × (gs ≡ us ++ g ∷ vs) × (g.0 ≡ a)
group-with a [] m = absurd (true≢false (sym m))
group-with a (g ∷ gs) m = elim (member-cases a g.0 (group_keys gs) m) [
  | inl e ↦ ([], g, gs, refl, e)
  | inr n ↦ let w = group-with a gs n in (g ∷ w.0, w.1, w.2, ap (λ (v : List (ℕ × List ℕ)). g ∷ v) w.3, w.4)
]

-- no group has a key that isn't among the keys
others-differ : (a : ℕ) (g : ℕ × List ℕ) (gs : List (ℕ × List ℕ)) → is_member a (group_keys gs) ≡ false → All (λ (h : ℕ × List ℕ). h.0 ≡ a → h ≡ g) gs
others-differ a g [] n = All-nil (λ (h : ℕ × List ℕ). h.0 ≡ a → h ≡ g)
others-differ a g (h ∷ gs) n = All-cons (λ (h : ℕ × List ℕ). h.0 ≡ a → h ≡ g) h gs (λ e. absurd (no_member-head a h.0 (group_keys gs) n e)) (others-differ a g gs (no_member-tail a h.0 (group_keys gs) n))

-- groups turned to one of them
turned-to : (key : ℕ → ℕ) (l : List ℕ) (gs us : List (ℕ × List ℕ)) (g : ℕ × List ℕ) (vs : List (ℕ × List ℕ)) → gs ≡ us ++ g ∷ vs → InRuns key l gs → InRuns key l (g ∷ (vs ++ us))
turned-to key l gs us g vs e r = runs-turn key l gs (g ∷ (vs ++ us)) r (record { front = us; back = g ∷ vs; before = e; after = refl })

-- in another order stands the same group
same-group : (key : ℕ → ℕ) (a : ℕ) (l : List ℕ) (gs hs : List (ℕ × List ℕ)) (us : List (ℕ × List ℕ)) (g : ℕ × List ℕ) (vs us' : List (ℕ × List ℕ)) (g' : ℕ × List ℕ) (vs' : List (ℕ × List ℕ))
    → InRuns key l gs → IsPermutation gs hs → gs ≡ us ++ g ∷ vs → g.0 ≡ a → hs ≡ us' ++ g' ∷ vs' → g'.0 ≡ a → g' ≡ g
same-group key a l gs hs us g vs us' g' vs' r p e k e' k' = All-head P g' vs' (All-append_right us' (g' ∷ vs') (subst (All P) e' (All-permutation P gs hs p (All-permutation P (g ∷ (vs ++ us)) gs (IsTurn-permutation (g ∷ (vs ++ us)) gs (record { front = g ∷ vs; back = us; before = refl; after = e })) all)))) k'
  where
    P : ℕ × List ℕ → Type 0
    P h = h.0 ≡ a → h ≡ g

    t : InRuns key l (g ∷ (vs ++ us))
    t = turned-to key l gs us g vs e r

    all : All P (g ∷ (vs ++ us))
    all = All-cons P g (vs ++ us) (λ q. refl) (others-differ a g (vs ++ us) (subst (λ z. is_member z (group_keys (vs ++ us)) ≡ false) k (distinct-head g.0 (group_keys (vs ++ us)) t.once)))

    All-append_right : (xs ys : List (ℕ × List ℕ)) → All P (xs ++ ys) → All P ys
    All-append_right [] ys h = h
    All-append_right (x ∷ xs) ys h = All-append_right xs ys (All-tail P x (xs ++ ys) h)

-- a key that is constant on all groups but one sees the same order before and after
pub others-keep : (key other : ℕ → ℕ) (a c : ℕ) (l m keys : List ℕ) → AreRearranged key l m → length l ≡ length m → ((z : ℕ) → is_member z l ≡ is_member z m)
    → ((e : ℕ) → is_member e l ≡ true → key e ≢ a → other e ≡ c) → StandInOrder other l keys → StandInOrder other m keys
others-keep key other a c l m keys w long same far s = elim (cases_Bool (is_member a (group_keys w.before))) [
  | inr n ↦
      let apart : (e : ℕ) → is_member e l ≡ true → other e ≡ c = λ e i. far e i (λ q. both_ways (is_member a (group_keys w.before)) n (subst (λ z. is_member z (group_keys w.before) ≡ true) q (keys-member key l w.before e w.runs_before i))) in
      order-exchanged other c [] l m keys s apart (λ e i. apart e (same e ∙ i)) long
  | inl y ↦ at (group-with a w.before y) (group-with a w.after (permutation-member (group_keys w.before) (group_keys w.after) a (IsPermutation-map (λ (h : ℕ × List ℕ). h.0) w.before w.after w.same_groups) ∙ y))
]
  where
    at : (us : List (ℕ × List ℕ)) × (g : ℕ × List ℕ) × (vs : List (ℕ × List ℕ)) × (w.before ≡ us ++ g ∷ vs) × (g.0 ≡ a)
        → (us : List (ℕ × List ℕ)) × (g : ℕ × List ℕ) × (vs : List (ℕ × List ℕ)) × (w.after ≡ us ++ g ∷ vs) × (g.0 ≡ a) → StandInOrder other m keys
    at x y = order-turned other (x.1.1 ++ new) m keys (order-exchanged other c x.1.1 old new keys (order-turned other l (x.1.1 ++ old) keys s before.around) far-old far-new equal)
        (IsTurn-sym m (x.1.1 ++ new) (subst (λ (v : List ℕ). IsTurn m (v ++ new)) (ap (λ (v : ℕ × List ℕ). v.1) one) after.around))
      where
        old : List ℕ
        old = joined (x.2 ++ x.0)

        new : List ℕ
        new = joined (y.2 ++ y.0)

        before : InRuns key l (x.1 ∷ (x.2 ++ x.0))
        before = turned-to key l w.before x.0 x.1 x.2 x.3 w.runs_before

        after : InRuns key m (y.1 ∷ (y.2 ++ y.0))
        after = turned-to key m w.after y.0 y.1 y.2 y.3 w.runs_after

        one : y.1 ≡ x.1
        one = same-group key a l w.before w.after x.0 x.1 x.2 y.0 y.1 y.2 w.runs_before w.same_groups x.3 x.4 y.3 y.4

        far-old : (e : ℕ) → is_member e old ≡ true → other e ≡ c
        far-old e i = far e (sym (IsTurn-member l (x.1.1 ++ old) e before.around) ∙ member-append_right e x.1.1 old i) (λ q. other-groups key x.1 (x.2 ++ x.0) e before.once before.groups i (q ∙ sym x.4))

        far-new : (e : ℕ) → is_member e new ≡ true → other e ≡ c
        far-new e i = far e (same e ∙ sym (IsTurn-member m (y.1.1 ++ new) e after.around) ∙ member-append_right e y.1.1 new i) (λ q. other-groups key y.1 (y.2 ++ y.0) e after.once after.groups i (q ∙ sym y.4))

        equal : length old ≡ length new
        equal = omega (
          arith,
          IsTurn-length l (x.1.1 ++ old) before.around,
          IsTurn-length m (y.1.1 ++ new) after.around,
          length-append x.1.1 old,
          length-append y.1.1 new,
          ap (λ (v : ℕ × List ℕ). length v.1) one,
          long,
        )

-- what is in a list by keys, in an order of the keys
abbrev pub gathered : (ℕ → ℕ) → List ℕ → List ℕ → List (ℕ × List ℕ)
gathered key l keys = map (λ k. (k, filter (λ x. key x == k) l)) keys

pub gathered-keys : (key : ℕ → ℕ) (l keys : List ℕ) → group_keys (gathered key l keys) ≡ keys
gathered-keys key l [] = refl
gathered-keys key l (k ∷ keys) = ap (λ (v : List ℕ). k ∷ v) (gathered-keys key l keys)

-- the members are those with one of the keys
pub gathered-member : (key : ℕ → ℕ) (l keys : List ℕ) (x : ℕ) → is_member x (joined (gathered key l keys)) ≡ true → (is_member x l ≡ true) × (is_member (key x) keys ≡ true)
gathered-member key l [] x m = absurd (true≢false (sym m))
gathered-member key l (k ∷ keys) x m = elim (member-append_cases x (filter (λ x. key x == k) l) (joined (gathered key l keys)) m) [
  | inl i ↦ let w = member-filter_parts (λ x. key x == k) l x i in (w.0, subst (λ z. is_member z (k ∷ keys) ≡ true) (sym (eqb-true (key x) k w.1)) (member-head k keys))
  | inr i ↦ let w = gathered-member key l keys x i in (w.0, member-tail (key x) k keys w.1)
]

pub member-gathered : (key : ℕ → ℕ) (l keys : List ℕ) (x : ℕ) → is_member x l ≡ true → is_member (key x) keys ≡ true → is_member x (joined (gathered key l keys)) ≡ true
member-gathered key l [] x m n = absurd (true≢false (sym n))
member-gathered key l (k ∷ keys) x m n = elim (member-cases (key x) k keys n) [
  | inl e ↦ member-append_left x (filter (λ x. key x == k) l) (joined (gathered key l keys)) (filter-member (λ x. key x == k) l x m (eq-eqb (key x) k (sym e)))
  | inr i ↦ member-append_right x (filter (λ x. key x == k) l) (joined (gathered key l keys)) (member-gathered key l keys x m i)
]

-- each once
pub gathered-distinct : (key : ℕ → ℕ) (l keys : List ℕ) → is_distinct l ≡ true → is_distinct keys ≡ true → is_distinct (joined (gathered key l keys)) ≡ true
gathered-distinct key l [] d n = refl
gathered-distinct key l (k ∷ keys) d n = distinct-append (filter (λ x. key x == k) l) (joined (gathered key l keys)) (distinct-filter (λ x. key x == k) l d) (gathered-distinct key l keys d (distinct-tail k keys n))
    (λ z m. false_from_ne_true (is_member z (joined (gathered key l keys))) (λ i. both_ways (is_member k keys) (distinct-head k keys n)
    (subst (λ y. is_member y keys ≡ true) (eqb-true (key z) k (member-filter_parts (λ x. key x == k) l z m).1) (gathered-member key l keys z i).1)))

-- groups, where each key has a member
pub gathered-groups : (key : ℕ → ℕ) (l keys : List ℕ) → ((k : ℕ) → is_member k keys ≡ true → (x : ℕ) × (is_member x l ≡ true) × (key x ≡ k)) → All (IsGroup key) (gathered key l keys)
gathered-groups key l [] h = All-nil (IsGroup key)
gathered-groups key l (k ∷ keys) h = All-cons (IsGroup key) (k, filter (λ x. key x == k) l) (gathered key l keys) (record {
  filled = let w = h k (member-head k keys) in some (filter (λ x. key x == k) l) w.0 (filter-member (λ x. key x == k) l w.0 w.1 (eq-eqb (key w.0) k w.2));
  same_key = λ x m. eqb-true (key x) k (member-filter_parts (λ x. key x == k) l x m).1;
}) (gathered-groups key l keys (λ j m. h j (member-tail j k keys m)))
  where
    some : (v : List ℕ) (x : ℕ) → is_member x v ≡ true → 0 < length v
    some [] x m = absurd (true≢false (sym m))
    some (y ∷ v) x m = omega arith

-- in runs
pub gathered-runs : (key : ℕ → ℕ) (l keys : List ℕ) → is_distinct keys ≡ true → ((k : ℕ) → is_member k keys ≡ true → (x : ℕ) × (is_member x l ≡ true) × (key x ≡ k)) → InRuns key (joined (gathered key l keys)) (gathered key l keys)
gathered-runs key l keys d h = record { once = ap is_distinct (gathered-keys key l keys) ∙ d; groups = gathered-groups key l keys h; around = IsTurn-refl (joined (gathered key l keys)) }

-- runs put in another order of their keys: the list that they make
pub record IsPutInOrder (key : ℕ → ℕ) (l : List ℕ) (gs : List (ℕ × List ℕ)) (keys m : List ℕ) : Type 0 where
  pub after : List (ℕ × List ℕ)
  pub runs_after : InRuns key m after
  pub same_groups : IsPermutation gs after
  pub order : group_keys after ≡ keys
  pub same_members : IsPermutation l m

-- there is one for each order of the keys
pub put-in_order : (key : ℕ → ℕ) (l keys : List ℕ) (gs : List (ℕ × List ℕ)) → is_distinct l ≡ true → InRuns key l gs → IsPermutation (group_keys gs) keys → (m : List ℕ) × IsPutInOrder key l gs keys m
put-in_order key l keys gs d r p = (
  joined hs,
  record {
    after = hs;
    runs_after = gathered-runs key whole keys once filled;
    same_groups = subst (λ (v : List (ℕ × List ℕ)). IsPermutation v hs) (groups-by_key key l gs r) (IsPermutation-map (λ k. (k, filter (λ x. key x == k) whole)) (group_keys gs) keys p);
    order = gathered-keys key whole keys;
    same_members = permutation-from_members l (joined hs) d (gathered-distinct key whole keys dw once) members;
  },
)
  where
    whole : List ℕ
    whole = joined gs

    hs : List (ℕ × List ℕ)
    hs = gathered key whole keys

    dw : is_distinct whole ≡ true
    dw = IsTurn-distinct l whole r.around d

    once : is_distinct keys ≡ true
    once = permutation-distinct (group_keys gs) keys p r.once

    key-there : (x : ℕ) → is_member x whole ≡ true → is_member (key x) keys ≡ true
    key-there x m = permutation-member (group_keys gs) keys (key x) p ∙ joined-key key gs x r.groups m

    members : (z : ℕ) → is_member z l ≡ is_member z (joined hs)
    members z = same-tests (is_member z l) (is_member z (joined hs))
        (λ m. let i : is_member z whole ≡ true = IsTurn-member l whole z r.around ∙ m in member-gathered key whole keys z i (key-there z i))
        (λ m. sym (IsTurn-member l whole z r.around) ∙ (gathered-member key whole keys z m).0)

    filled : (k : ℕ) → is_member k keys ≡ true → (x : ℕ) × (is_member x whole ≡ true) × (key x ≡ k)
    filled k m = at (group-with k gs (sym (permutation-member (group_keys gs) keys k p) ∙ m))
      where
        at : (us : List (ℕ × List ℕ)) × (g : ℕ × List ℕ) × (vs : List (ℕ × List ℕ)) × (gs ≡ us ++ g ∷ vs) × (g.0 ≡ k) → (x : ℕ) × (is_member x whole ≡ true) × (key x ≡ k)
        at w =
            let t : InRuns key l (w.1 ∷ (w.2 ++ w.0)) = turned-to key l gs w.0 w.1 w.2 w.3 r in
            let own : IsGroup key w.1 = All-head (IsGroup key) w.1 (w.2 ++ w.0) t.groups in
            let f = first-of w.1.1 own.filled in
            let i : is_member f.0 w.1.1 ≡ true = ap (is_member f.0) f.2 ∙ member-head f.0 f.1 in
            (f.0, IsTurn-member l whole f.0 r.around ∙ sym (IsTurn-member l (w.1.1 ++ joined (w.2 ++ w.0)) f.0 t.around) ∙ member-append_left f.0 w.1.1 (joined (w.2 ++ w.0)) i, own.same_key f.0 i ∙ w.4)

-- groups told by their keys: two orders of the same groups with the same keys are one
told : (gs hs : List (ℕ × List ℕ)) → is_distinct (group_keys gs) ≡ true → IsPermutation gs hs → group_keys gs ≡ group_keys hs → gs ≡ hs
told gs hs d p e = same_lists gs hs (sym (length_permutation gs hs p)) each
  where
    none : ℕ × List ℕ
    none = (0, [])

    found : All (λ (h : ℕ × List ℕ). (i : ℕ) × (i < length gs) × (slice_index_or gs i none ≡ h)) hs
    found = All-permutation (λ (h : ℕ × List ℕ). (i : ℕ) × (i < length gs) × (slice_index_or gs i none ≡ h)) gs hs p
        (All-from_get_or (λ (h : ℕ × List ℕ). (i : ℕ) × (i < length gs) × (slice_index_or gs i none ≡ h)) gs none (λ i l. (i, l, refl)))

    key-at : (v : List (ℕ × List ℕ)) (i : ℕ) → i < length v → slice_index_or (group_keys v) i 0 ≡ (slice_index_or v i none).0
    key-at v i l = get_or-map (λ (h : ℕ × List ℕ). h.0) v i none 0 l

    each : (i : ℕ) (o : ℕ × List ℕ) → i < length gs → slice_index_or gs i o ≡ slice_index_or hs i o
    each i o l =
        let b : i < length hs = omega (arith, l, length_permutation gs hs p) in
        let w = All-get_or (λ (h : ℕ × List ℕ). (i : ℕ) × (i < length gs) × (slice_index_or gs i none ≡ h)) hs i none b found in
        let same : w.0 ≡ i = same-place (group_keys gs) w.0 i d (in_keys w.0 w.1) (in_keys i l)
        (key-at gs w.0 w.1 ∙ ap (λ (h : ℕ × List ℕ). h.0) w.2 ∙ sym (key-at hs i b) ∙ ap (λ (v : List ℕ). slice_index_or v i 0) (sym e)) in
        get_or_default gs i o none l ∙ ap (λ z. slice_index_or gs z none) (sym same) ∙ w.2 ∙ sym (get_or_default hs i o none b)
      where
        in_keys : (i : ℕ) → i < length gs → i < length (group_keys gs)
        in_keys i l = subst (λ n. i < n) (sym (length-map gs (λ (h : ℕ × List ℕ). h.0))) l

-- so are two orders of one group at most
few-same : (gs hs : List (ℕ × List ℕ)) → length gs ≤ 1 → IsPermutation gs hs → gs ≡ hs
few-same [] [] l p = refl
few-same [] (h ∷ hs) l p = absurd (omega (arith, length_permutation [] (h ∷ hs) p))
few-same (g ∷ []) [] l p = absurd (omega (arith, length_permutation (g ∷ []) [] p))
few-same (g ∷ []) (h ∷ []) l p = ap (λ (z : ℕ × List ℕ). z ∷ []) (sym (All-head (λ (z : ℕ × List ℕ). z ≡ g) h [] (All-permutation (λ (z : ℕ × List ℕ). z ≡ g) (g ∷ []) (h ∷ []) p (All-cons (λ (z : ℕ × List ℕ). z ≡ g) g [] refl (All-nil (λ (z : ℕ × List ℕ). z ≡ g))))))
few-same (g ∷ []) (h ∷ f ∷ hs) l p = absurd (omega (arith, length_permutation (g ∷ []) (h ∷ f ∷ hs) p))
few-same (g ∷ f ∷ gs) hs l p = absurd (omega (arith, l))

-- the keys of groups in the reverse order
pub keys-reverse : (gs : List (ℕ × List ℕ)) → group_keys (reverse gs) ≡ reverse (group_keys gs)
keys-reverse [] = refl
keys-reverse (g ∷ gs) =
    ap group_keys (reverse-append (g ∷ []) gs) ∙ map-append (λ (h : ℕ × List ℕ). h.0) (reverse gs) (g ∷ [])
    ∙ ap (λ (v : List ℕ). v ++ g.0 ∷ []) (keys-reverse gs) ∙ sym (reverse-append (g.0 ∷ []) (group_keys gs))

-- the runs reversed
pub reversed-exists : (key : ℕ → ℕ) (l : List ℕ) (gs : List (ℕ × List ℕ)) → is_distinct l ≡ true → InRuns key l gs → (m : List ℕ) × IsPermutation l m × AreReversed key l m
reversed-exists key l gs d r = (w.0, w.1.same_members, record { groups = gs; before = r; after = subst (InRuns key w.0) (sym same) w.1.runs_after })
  where
    w : (m : List ℕ) × IsPutInOrder key l gs (reverse (group_keys gs)) m
    w = put-in_order key l (reverse (group_keys gs)) gs d r (IsPermutation-reverse (group_keys gs))

    back : group_keys (reverse gs) ≡ reverse (group_keys gs)
    back = keys-reverse gs

    same : reverse gs ≡ w.1.after
    same = told (reverse gs) w.1.after (ap is_distinct back ∙ distinct-reverse (group_keys gs) r.once)
        (IsPermutation-trans (reverse gs) gs w.1.after (IsPermutation-sym gs (reverse gs) (IsPermutation-reverse gs)) w.1.same_groups) (back ∙ sym w.1.order)

pub regrouped-exists : (key : ℕ → ℕ) (l keys : List ℕ) (gs : List (ℕ × List ℕ)) → is_distinct l ≡ true → InRuns key l gs → IsPermutation (group_keys gs) keys → (m : List ℕ) × IsPermutation l m × AreRegrouped key l keys m
regrouped-exists key l keys gs d r p =
    let w = put-in_order key l keys gs d r p in
    (w.0, w.1.same_members, record { before = gs; after = w.1.after; runs_before = r; runs_after = w.1.runs_after; same_groups = w.1.same_groups; order = w.1.order })

-- groups in the reverse cyclic order: what comes of it is one cyclic order
few-turn : (gs : List (ℕ × List ℕ)) → length gs ≤ 1 → reverse gs ≡ gs
few-turn [] l = refl
few-turn (g ∷ []) l = refl
few-turn (g ∷ h ∷ gs) l = absurd (omega (arith, l))

pub reversed-once : (key : ℕ → ℕ) (l m n : List ℕ) → is_distinct l ≡ true → AreReversed key l m → AreReversed key l n → IsTurn m n
reversed-once key l m n d a b = elim (cases_lt 1 (length a.groups)) [
  | inl y ↦ through (joined-turn (reverse a.groups) (reverse b.groups) (IsTurn-reverse a.groups b.groups (runs-unique key l a.groups b.groups d a.before b.before y)))
  | inr f ↦ elim (cases_lt 1 (length b.groups)) [
    | inl y ↦ through (IsTurn-sym (joined (reverse b.groups)) (joined (reverse a.groups)) (joined-turn (reverse b.groups) (reverse a.groups) (IsTurn-reverse b.groups a.groups (runs-unique key l b.groups a.groups d b.before a.before y))))
    | inr g ↦ through (IsTurn-trans (joined (reverse a.groups)) l (joined (reverse b.groups))
        (subst (λ (v : List (ℕ × List ℕ)). IsTurn (joined v) l) (sym (few-turn a.groups f)) (IsTurn-sym l (joined a.groups) a.before.around))
        (subst (λ (v : List (ℕ × List ℕ)). IsTurn l (joined v)) (sym (few-turn b.groups g)) b.before.around))
  ]
]
  where
    through : IsTurn (joined (reverse a.groups)) (joined (reverse b.groups)) → IsTurn m n
    through t = IsTurn-trans m (joined (reverse a.groups)) n a.after.around (IsTurn-trans (joined (reverse a.groups)) (joined (reverse b.groups)) n t (IsTurn-sym n (joined (reverse b.groups)) b.after.around))

-- groups put into one order of their keys: what comes of it is one cyclic order
pub regrouped-once : (key : ℕ → ℕ) (l keys m n : List ℕ) → is_distinct l ≡ true → AreRegrouped key l keys m → AreRegrouped key l keys n → IsTurn m n
regrouped-once key l keys m n d a b = elim (cases_lt 1 (length a.before)) [
  | inl y ↦ through (equal (IsTurn-permutation a.before b.before (runs-unique key l a.before b.before d a.runs_before b.runs_before y)))
  | inr f ↦ elim (cases_lt 1 (length b.before)) [
    | inl y ↦ through (equal (IsPermutation-sym b.before a.before (IsTurn-permutation b.before a.before (runs-unique key l b.before a.before d b.runs_before a.runs_before y))))
    | inr g ↦ through (IsTurn-trans (joined a.after) l (joined b.after)
        (subst (λ (v : List (ℕ × List ℕ)). IsTurn (joined v) l) (few-same a.before a.after f a.same_groups) (IsTurn-sym l (joined a.before) a.runs_before.around))
        (subst (λ (v : List (ℕ × List ℕ)). IsTurn l (joined v)) (few-same b.before b.after g b.same_groups) b.runs_before.around))
  ]
]
  where
    equal : IsPermutation a.before b.before → IsTurn (joined a.after) (joined b.after)
    equal p = subst (λ (v : List (ℕ × List ℕ)). IsTurn (joined a.after) (joined v))
        (told a.after b.after a.runs_after.once (IsPermutation-trans a.after a.before b.after (IsPermutation-sym a.before a.after a.same_groups) (IsPermutation-trans a.before b.before b.after p b.same_groups)) (a.order ∙ sym b.order))
        (IsTurn-refl (joined a.after))

    through : IsTurn (joined a.after) (joined b.after) → IsTurn m n
    through t = IsTurn-trans m (joined a.after) n a.runs_after.around (IsTurn-trans (joined a.after) (joined b.after) n t (IsTurn-sym n (joined b.after) b.runs_after.around))
