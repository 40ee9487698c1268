-- The groups of a cyclic order in runs, told by their keys: each is what has its key, in the order of the whole.
use Rattle.std.proofs.Common.{◌≡◌, ℕ, ◌==◌, Bool, true, List, [], ◌∷◌, ◌++◌, map, filter, refl, sym, ap, ap₂, ◌∙◌, subst, append_assoc, append-nil, All}
use Rattle.std.proofs.lemmas.Bool.{eq-eqb, ne_eqb}
use Rattle.std.proofs.lemmas.List.Elements.{All-head, filter-append}
use Rattle.std.proofs.lemmas.List.Sorted.{All-permutation}
use Rattle.permutations.specs.Members.{is_member, is_distinct}
use Rattle.permutations.specs.Cyclic.{IsTurn}
use Rattle.permutations.specs.Runs.{joined, group_keys, IsGroup, InRuns}
use Rattle.permutations.proofs.Members.{member-append_left, member-append_right}
use Rattle.permutations.proofs.Filter.{filter-all, filter-none}
use Rattle.permutations.proofs.Turned.{IsTurn-distinct, IsTurn-map, IsTurn-permutation, IsTurn-swap, IsTurn-member}
use Rattle.permutations.proofs.Runs.{joined-append, joined-key, other-groups}

-- each group is what has its key, in the order of the whole
pub group-filter : (key : ℕ → ℕ) (us : List (ℕ × List ℕ)) (g : ℕ × List ℕ) (vs : List (ℕ × List ℕ)) → is_distinct (group_keys (us ++ g ∷ vs)) ≡ true → All (IsGroup key) (us ++ g ∷ vs)
    → filter (λ x. key x == g.0) (joined (us ++ g ∷ vs)) ≡ g.1
group-filter key us g vs h a =
    ap (filter p) (joined-append us (g ∷ vs))
    ∙ filter-append p (joined us) (g.1 ++ joined vs)
    ∙ ap₂ ◌++◌ (filter-none p (joined us) (λ x m. ne_eqb (key x) g.0 (other-groups key g (vs ++ us) x k b (ap (is_member x) (joined-append vs us) ∙ member-append_right x (joined vs) (joined us) m))))
    (filter-append p g.1 (joined vs)
    ∙ ap₂ ◌++◌ (filter-all p g.1 (λ x m. eq-eqb (key x) g.0 ((All-head (IsGroup key) g (vs ++ us) b).same_key x m)))
    (filter-none p (joined vs) (λ x m. ne_eqb (key x) g.0 (other-groups key g (vs ++ us) x k b (ap (is_member x) (joined-append vs us) ∙ member-append_left x (joined vs) (joined us) m))))
    ∙ append-nil g.1)
  where
    p : ℕ → Bool
    p x = key x == g.0

    turn : IsTurn (us ++ g ∷ vs) (g ∷ (vs ++ us))
    turn = IsTurn-swap us (g ∷ vs)

    k : is_distinct (group_keys (g ∷ (vs ++ us))) ≡ true
    k = IsTurn-distinct (group_keys (us ++ g ∷ vs)) (group_keys (g ∷ (vs ++ us))) (IsTurn-map (λ f. f.0) (us ++ g ∷ vs) (g ∷ (vs ++ us)) turn) h

    b : All (IsGroup key) (g ∷ (vs ++ us))
    b = All-permutation (IsGroup key) (us ++ g ∷ vs) (g ∷ (vs ++ us)) (IsTurn-permutation (us ++ g ∷ vs) (g ∷ (vs ++ us)) turn) a

-- the groups behind a front, by their keys
groups-behind : (key : ℕ → ℕ) (us vs : List (ℕ × List ℕ)) → is_distinct (group_keys (us ++ vs)) ≡ true → All (IsGroup key) (us ++ vs) → (l : List ℕ) → l ≡ joined (us ++ vs)
    → map (λ k. (k, filter (λ x. key x == k) l)) (group_keys vs) ≡ vs
groups-behind key us [] h a l e = refl
groups-behind key us (g ∷ vs) h a l e = ap₂ ◌∷◌ (λ i. (g.0, same i)) (groups-behind key (us ++ g ∷ []) vs
    (subst (λ (v : List (ℕ × List ℕ)). is_distinct (group_keys v) ≡ true) (sym move) h)
    (subst (All (IsGroup key)) (sym move) a) l (e ∙ ap joined (sym move)))
  where
    move : (us ++ g ∷ []) ++ vs ≡ us ++ g ∷ vs
    move = append_assoc us (g ∷ []) vs

    same : filter (λ x. key x == g.0) l ≡ g.1
    same = ap (filter (λ x. key x == g.0)) e ∙ group-filter key us g vs h a

-- the keys, in their order, tell the groups
pub groups-by_key : (key : ℕ → ℕ) (l : List ℕ) (gs : List (ℕ × List ℕ)) → InRuns key l gs → map (λ k. (k, filter (λ x. key x == k) (joined gs))) (group_keys gs) ≡ gs
groups-by_key key l gs r = groups-behind key [] gs r.once r.groups (joined gs) refl

-- the keys are those of the members
pub keys-member : (key : ℕ → ℕ) (l : List ℕ) (gs : List (ℕ × List ℕ)) (x : ℕ) → InRuns key l gs → is_member x l ≡ true → is_member (key x) (group_keys gs) ≡ true
keys-member key l gs x r m = joined-key key gs x r.groups (IsTurn-member l (joined gs) x r.around ∙ m)
