-- The groups of a cyclic order in another order of their keys, put one behind the other.
use Rattle.std.proofs.Common.{◌≡◌, ◌≢◌, ℕ, ◌<◌, ◌≤◌, ◌==◌, not, inl, inr, Bool, true, false, List, [], ◌∷◌, ◌++◌, length, map, filter, reverse, refl, sym, ap, ap₂, ◌∙◌, subst, arith, append_assoc, append-nil, All, IsPermutation}
use Rattle.std.proofs.lemmas.Bool.{cases_lt, true≢false, eq-eqb, ne_eqb, false_from_ne_true, both_ways, not_from_false}
use Rattle.std.proofs.lemmas.List.{map-append, length-append}
use Rattle.std.proofs.lemmas.List.Folds.{concat-append}
use Rattle.std.proofs.lemmas.List.Elements.{All-nil, All-cons, All-head, All-tail, filter-append}
use Rattle.std.proofs.lemmas.List.Sorted.{All-permutation, IsPermutation-reverse, length_permutation}
use Rattle.std.specs.List.{concat}
use Rattle.permutations.specs.Cyclic.{first_or, turned, from_least, IsTurn}
use Rattle.permutations.specs.Members.{is_member, is_distinct}
use Rattle.permutations.specs.Runs.{joined, group_keys, IsGroup, InRuns}
use Rattle.permutations.proofs.CyclicSame.{IsTurn-trans, IsTurn-turned}
use Rattle.permutations.proofs.Filter.{filter-all, filter-none, filter-member, member-filter_parts}
use Rattle.permutations.proofs.Members.{member-head, member-append_cases, member-append_left, member-append_right, no_member-append, CutAt, cut_at}
use Rattle.permutations.proofs.NormalForm.{from_least-turn}
use Rattle.permutations.proofs.Runs.{first-of, other-groups, runs-turn}
use Rattle.permutations.proofs.Turned.{IsTurn-sym, IsTurn-member, IsTurn-reverse, turned-cut, turned-turn, turned-member}
use Rattle.skeletons.specs.Moves.{AreReversed, AreRegrouped}
use Rattle.skeletons.specs.Round.{keys_met}
use Rattle.skeletons.proofs.KeyRuns.{met-runs}
use Rattle.skeletons.proofs.Rearranged.{keys-reverse}
use Rattle.skeletons.proofs.Vertices.{first-member}
use Rattle.spqr_session.specs.Moved.{group_round, in_groups}

-- on the way round from a member with another key the first group is met whole
met-whole : (key : ℕ → ℕ) (l : List ℕ) (g : ℕ × List ℕ) (gs : List (ℕ × List ℕ)) (y : ℕ) → is_distinct l ≡ true → InRuns key l (g ∷ gs) → is_member y l ≡ true → key y ≢ g.0
    → filter (λ x. key x == g.0) (turned l y) ≡ g.1
met-whole key l g gs y d r m n =
    ap (filter p) (IsTurn-turned l (g.1 ++ joined gs) y r.around d m ∙ ap (λ (v : List ℕ). turned v y) whole ∙ turned-cut (g.1 ++ c.front) y c.back (no_member-append y g.1 c.front outside c.first))
    ∙ filter-append p (y ∷ c.back) (g.1 ++ c.front)
    ∙ ap₂ ◌++◌ (filter-none p (y ∷ c.back) (λ x i. apart x (member-append_right x c.front (y ∷ c.back) i)))
    (filter-append p g.1 c.front ∙ ap₂ ◌++◌ (filter-all p g.1 (λ x i. eq-eqb (key x) g.0 ((All-head (IsGroup key) g gs r.groups).same_key x i)))
    (filter-none p c.front (λ x i. apart x (member-append_left x c.front (y ∷ c.back) i))) ∙ append-nil g.1)
  where
    p : ℕ → Bool
    p x = key x == g.0

    outside : is_member y g.1 ≡ false
    outside = false_from_ne_true (is_member y g.1) (λ i. n ((All-head (IsGroup key) g gs r.groups).same_key y i))

    inside : is_member y (joined gs) ≡ true
    inside = elim (member-append_cases y g.1 (joined gs) (IsTurn-member l (g.1 ++ joined gs) y r.around ∙ m)) [ inl i ↦ absurd (both_ways (is_member y g.1) outside i) | inr i ↦ i ]

    c : CutAt y (joined gs)
    c = cut_at y (joined gs) inside

    whole : g.1 ++ joined gs ≡ (g.1 ++ c.front) ++ y ∷ c.back
    whole = ap (λ (v : List ℕ). g.1 ++ v) c.is ∙ sym (append_assoc g.1 c.front (y ∷ c.back))

    apart : (x : ℕ) → is_member x (c.front ++ y ∷ c.back) ≡ true → p x ≡ false
    apart x i = ne_eqb (key x) g.0 (other-groups key g gs x r.once r.groups (ap (is_member x) c.is ∙ i))

-- of two groups at least the first is met whole
first-whole : (key : ℕ → ℕ) (l : List ℕ) (g : ℕ × List ℕ) (gs : List (ℕ × List ℕ)) → is_distinct l ≡ true → InRuns key l (g ∷ gs) → 0 < length gs → group_round key l g.0 ≡ g.1
first-whole key l g [] d r n = absurd (omega (arith, n))
first-whole key l g (h ∷ gs) d r n = met-whole key l g (h ∷ gs) (first_or 0 (filter q l)) d r found.0 (λ e. true≢false (sym found.1 ∙ ap not (eq-eqb (key (first_or 0 (filter q l))) g.0 e)))
  where
    q : ℕ → Bool
    q x = not (key x == g.0)

    f : (x : ℕ) × (v : List ℕ) × (h.1 ≡ x ∷ v)
    f = first-of h.1 (All-head (IsGroup key) h gs (All-tail (IsGroup key) g (h ∷ gs) r.groups)).filled

    behind : is_member f.0 (joined (h ∷ gs)) ≡ true
    behind = member-append_left f.0 h.1 (joined gs) (ap (is_member f.0) f.2 ∙ member-head f.0 f.1)

    within : is_member f.0 l ≡ true
    within = sym (IsTurn-member l (g.1 ++ joined (h ∷ gs)) f.0 r.around) ∙ member-append_right f.0 g.1 (joined (h ∷ gs)) behind

    passes : q f.0 ≡ true
    passes = not_from_false (key f.0 == g.0) (ne_eqb (key f.0) g.0 (other-groups key g (h ∷ gs) f.0 r.once r.groups behind))

    found : (is_member (first_or 0 (filter q l)) l ≡ true) × (q (first_or 0 (filter q l)) ≡ true)
    found = member-filter_parts q l (first_or 0 (filter q l)) (first-member (filter q l) f.0 (filter-member q l f.0 within passes))

-- what holds of each part of a list
by-parts : (P : ℕ × List ℕ → Type 0) (us vs : List (ℕ × List ℕ)) → ((u : List (ℕ × List ℕ)) (h : ℕ × List ℕ) (v : List (ℕ × List ℕ)) → us ++ vs ≡ u ++ h ∷ v → P h) → All P vs
by-parts P us [] each = All-nil P
by-parts P us (h ∷ vs) each = All-cons P h vs (each us h vs refl) (by-parts P (us ++ h ∷ []) vs (λ u k v e. each u k v (sym (append_assoc us (h ∷ []) vs) ∙ e)))

-- each of them is
all-whole : (key : ℕ → ℕ) (l : List ℕ) (gs : List (ℕ × List ℕ)) → is_distinct l ≡ true → InRuns key l gs → 1 < length gs → All (λ (h : ℕ × List ℕ). group_round key l h.0 ≡ h.1) gs
all-whole key l gs d r n = by-parts (λ (h : ℕ × List ℕ). group_round key l h.0 ≡ h.1) [] gs (λ u h v e. first-whole key l h (v ++ u) d (runs-turn key l gs (h ∷ (v ++ u)) r (record { front = u; back = h ∷ v; before = e; after = refl }))
    (omega (arith, n, ap (λ (w : List (ℕ × List ℕ)). length w) e, length-append u (h ∷ v), length-append v u)))

-- groups that are met whole make what is joined of them
joined-met : (key : ℕ → ℕ) (l : List ℕ) (gs : List (ℕ × List ℕ)) → All (λ (h : ℕ × List ℕ). group_round key l h.0 ≡ h.1) gs → in_groups key l (group_keys gs) ≡ joined gs
joined-met key l [] a = refl
joined-met key l (g ∷ gs) a = ap₂ ◌++◌ (All-head (λ (h : ℕ × List ℕ). group_round key l h.0 ≡ h.1) g gs a) (joined-met key l gs (All-tail (λ (h : ℕ × List ℕ). group_round key l h.0 ≡ h.1) g gs a))

-- where there is one group, or none
few-regrouped : (key : ℕ → ℕ) (l m : List ℕ) (gs hs : List (ℕ × List ℕ)) → length gs ≤ 1 → IsPermutation gs hs → InRuns key l gs → InRuns key m hs → IsTurn m (in_groups key l (group_keys hs))
few-regrouped key l m [] [] n p r s = s.around
few-regrouped key l m [] (h ∷ hs) n p r s = absurd (omega (arith, length_permutation [] (h ∷ hs) p))
few-regrouped key l m (g ∷ []) [] n p r s = absurd (omega (arith, length_permutation (g ∷ []) [] p))
few-regrouped key l m (g ∷ []) (h ∷ []) n p r s = IsTurn-trans m (h.1 ++ []) (group_round key l h.0 ++ []) s.around (subst (λ (v : List ℕ). IsTurn (h.1 ++ []) v) (sym (append-nil (group_round key l h.0) ∙ all)) back)
  where
    y : ℕ
    y = first_or 0 (filter (λ x. not (key x == h.0)) l)

    same : h ≡ g
    same = All-head (λ (z : ℕ × List ℕ). z ≡ g) h [] (All-permutation (λ (z : ℕ × List ℕ). z ≡ g) (g ∷ []) (h ∷ []) p (All-cons (λ (z : ℕ × List ℕ). z ≡ g) g [] refl (All-nil (λ (z : ℕ × List ℕ). z ≡ g))))

    t : InRuns key l (h ∷ [])
    t = subst (λ (z : ℕ × List ℕ). InRuns key l (z ∷ [])) (sym same) r

    keyed : (x : ℕ) → is_member x (turned l y) ≡ true → key x ≡ h.0
    keyed x i = (All-head (IsGroup key) h [] t.groups).same_key x (ap (is_member x) (sym (append-nil h.1)) ∙ IsTurn-member l (h.1 ++ []) x t.around ∙ sym (turned-member l y x) ∙ i)

    all : group_round key l h.0 ≡ turned l y
    all = filter-all (λ x. key x == h.0) (turned l y) (λ x i. eq-eqb (key x) h.0 (keyed x i))

    back : IsTurn (h.1 ++ []) (turned l y)
    back = IsTurn-trans (h.1 ++ []) l (turned l y) (IsTurn-sym l (h.1 ++ []) t.around) (turned-turn l y)
few-regrouped key l m (g ∷ []) (h ∷ f ∷ hs) n p r s = absurd (omega (arith, length_permutation (g ∷ []) (h ∷ f ∷ hs) p))
few-regrouped key l m (g ∷ f ∷ gs) hs n p r s = absurd (omega (arith, n))

-- a cyclic order regrouped is a turn of its groups in the order of the keys
pub regrouped-is : (key : ℕ → ℕ) (l keys m : List ℕ) → is_distinct l ≡ true → AreRegrouped key l keys m → IsTurn m (in_groups key l keys)
regrouped-is key l keys m d a = subst (λ (v : List ℕ). IsTurn m (in_groups key l v)) a.order (elim (cases_lt 1 (length a.before)) [
  | inl n ↦ subst (IsTurn m) (sym (joined-met key l a.after (All-permutation (λ (h : ℕ × List ℕ). group_round key l h.0 ≡ h.1) a.before a.after a.same_groups (all-whole key l a.before d a.runs_before n)))) a.runs_after.around
  | inr n ↦ few-regrouped key l m a.before a.after n a.same_groups a.runs_before a.runs_after
])

-- the keys from another one on
turned-keys : (key : ℕ → ℕ) (l keys other : List ℕ) → IsTurn keys other → IsTurn (in_groups key l keys) (in_groups key l other)
turned-keys key l keys other t = record {
  front = in_groups key l t.front;
  back = in_groups key l t.back;
  before = ap (in_groups key l) t.before ∙ cut t.front t.back;
  after = ap (in_groups key l) t.after ∙ cut t.back t.front;
}
  where
    cut : (a b : List ℕ) → in_groups key l (a ++ b) ≡ in_groups key l a ++ in_groups key l b
    cut a b = ap concat (map-append (group_round key l) a b) ∙ concat-append (map (group_round key l) a) (map (group_round key l) b)

-- a cyclic order reversed by groups is a turn of its groups in the reverse order of the keys met
pub reversed-is : (key : ℕ → ℕ) (l m : List ℕ) → is_distinct l ≡ true → AreReversed key l m → IsTurn m (in_groups key l (reverse (keys_met key l)))
reversed-is key l m d a = IsTurn-trans m (in_groups key l (group_keys (reverse a.groups))) (in_groups key l (reverse (keys_met key l)))
    (regrouped-is key l (group_keys (reverse a.groups)) m d (record { before = a.groups; after = reverse a.groups; runs_before = a.before; runs_after = a.after; same_groups = IsPermutation-reverse a.groups; order = refl }))
    (turned-keys key l (group_keys (reverse a.groups)) (reverse (keys_met key l)) turn)
  where
    turn : IsTurn (group_keys (reverse a.groups)) (reverse (keys_met key l))
    turn = subst (λ (v : List ℕ). IsTurn v (reverse (keys_met key l))) (sym (keys-reverse a.groups))
        (subst (λ (v : List ℕ). IsTurn (reverse (group_keys a.groups)) (reverse v)) (sym (met-runs key l a.groups a.before)) (IsTurn-reverse (group_keys a.groups) (from_least (group_keys a.groups)) (from_least-turn (group_keys a.groups))))
