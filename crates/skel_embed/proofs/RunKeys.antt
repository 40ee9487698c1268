-- The keys of the runs around a vertex, read off the edges before which there is another key.
use Rattle.std.proofs.Common.{◌≡◌, ◌≢◌, ℕ, ◌<◌, ◌⊎◌, inl, inr, Bool, true, false, not, List, [], ◌∷◌, ◌++◌, length, map, filter, refl, sym, ap, ◌∙◌, subst, arith, append_assoc, All}
use Rattle.std.proofs.lemmas.Bool.{ne_eqb, eq-eqb, true≢false}
use Rattle.std.proofs.lemmas.List.{length-map}
use Rattle.std.proofs.lemmas.List.Elements.{All-head, All-tail, All-cons, All-nil, filter-append}
use Rattle.std.proofs.lemmas.List.Sorted.{length_permutation}
use Rattle.permutations.specs.Cyclic.{first_or, predecessor, from_least, turned, IsTurn}
use Rattle.permutations.specs.Members.{is_member, is_distinct}
use Rattle.permutations.specs.Runs.{joined, group_keys, IsGroup, InRuns}
use Rattle.permutations.proofs.Arrangements.{length-from_members}
use Rattle.permutations.proofs.Filter.{filter-all, filter-none}
use Rattle.permutations.proofs.Members.{member-head, member-cases, member-append_right, member-tail, CutAt, cut_at}
use Rattle.permutations.proofs.NormalForm.{from_least-same, from_least-turn, from_least-member, from_least-first_or, least-same}
use Rattle.permutations.proofs.Runs.{first-of, other-groups, runs-turn, runs-picked}
use Rattle.permutations.proofs.Successor.{predecessor-successor}
use Rattle.permutations.proofs.Turned.{IsTurn-sym, IsTurn-map, IsTurn-member, IsTurn-length}
use Rattle.multigraph.specs.Graph.{Multigraph}
use Rattle.rotations.specs.Rotation.{order_at}
use Rattle.faces.proofs.DartLemmas.{order-distinct}
use Rattle.pair_split.specs.Tutte.{Node, node_at, group, components, piece_of}
use Rattle.pair_split.specs.Split.{items_of, piece_ends}
use Rattle.pair_split.specs.declared.components.Kind.{Kind}
use Rattle.pair_split.specs.declared.components.Kind.TheVariants.{S, P, R, B}
use Rattle.pair_split.proofs.NodeParts.{node-pieces}
use Rattle.skeletons.specs.Items.{node_keys, keys_at, has_vertex, least_vertex, item_key, IsBlockTree}
use Rattle.faces.specs.Euler.{IsPlaneSystem}
use Rattle.skeletons.specs.Round.{keys_round}
use Rattle.skeletons.specs.Choices.{choice_of_kind, choice}
use Rattle.skeletons.proofs.KeyRuns.{met-runs}
use Rattle.skeletons.proofs.Vertices.{least-has, vertex-in}
use Rattle.skeletons.proofs.Moved.{runs-keys}
use Rattle.skeleton_runs.proofs.Contiguous.{plane-contiguous}
use Rattle.skeleton_choices.proofs.Plane.{choice-round, of-kind}
use Rattle.skeleton_choices.proofs.Told.{rigid-three}
use Rattle.skeleton_choices.proofs.Listed.{choice-normal}
use Rattle.skel_embed.specs.Taken.{begins_run, runs_met}
use Rattle.skel_embed.proofs.RunSteps.{Ends, some-end, end-member, next-in, before-first}
use Rattle.skel_embed.proofs.BondMoves.{runs-arranged}

-- of the first group the first edge is picked
module _ (key : ℕ → ℕ) (l : List ℕ) (d : is_distinct l ≡ true) (g h : ℕ × List ℕ) (hs : List (ℕ × List ℕ)) (r : InRuns key l (g ∷ h ∷ hs)) where
  own : (x : ℕ) → is_member x g.1 ≡ true → key x ≡ g.0
  own x m = (All-head (IsGroup key) g (h ∷ hs) r.groups).same_key x m

  first-is : (f : ℕ) (rest : List ℕ) → g.1 ≡ f ∷ rest → begins_run key l f ≡ true
  first-is f rest e =
      let w = before-first key l g h hs r f d (rest, e) in
      let n : key (predecessor l f) ≢ key f = λ q. other-groups key g (h ∷ hs) w.0 r.once r.groups (end-member _ w.0 w.1) (ap key (sym w.2) ∙ q ∙ own f (ap (is_member f) e ∙ member-head f rest)) in
      ap not (ne_eqb (key (predecessor l f)) (key f) n)

  others-not : (f : ℕ) (rest : List ℕ) → g.1 ≡ f ∷ rest → (y : ℕ) → is_member y rest ≡ true → begins_run key l y ≡ false
  others-not f rest e y m = ap not (eq-eqb (key (predecessor l y)) (key y) (ap key before ∙ own w.0 in-own ∙ sym (own y (ap (is_member y) e ∙ member-tail y f rest m))))
    where
      cut : CutAt y rest
      cut = cut_at y rest m

      w : (last : ℕ) × Ends last (f ∷ cut.front)
      w = some-end (f ∷ cut.front) (omega arith)

      is : g.1 ≡ w.1.0 ++ w.0 ∷ y ∷ cut.back
      is = e ∙ ap (λ (z : List ℕ). f ∷ z) cut.is ∙ ap (λ (z : List ℕ). z ++ y ∷ cut.back) w.1.1 ∙ append_assoc w.1.0 (w.0 ∷ []) (y ∷ cut.back)

      in-own : is_member w.0 g.1 ≡ true
      in-own = ap (is_member w.0) is ∙ member-append_right w.0 w.1.0 (w.0 ∷ y ∷ cut.back) (member-head w.0 (y ∷ cut.back))

      before : predecessor l y ≡ w.0
      before = ap (predecessor l) (sym (next-in l w.1.0 w.0 y (cut.back ++ joined (h ∷ hs)) d (subst (IsTurn l) (ap (λ (z : List ℕ). z ++ joined (h ∷ hs)) is ∙ append_assoc w.1.0 (w.0 ∷ y ∷ cut.back) (joined (h ∷ hs))) r.around))) ∙ predecessor-successor l w.0 d

  pub first-picked : filter (begins_run key l) g.1 ≡ first_or 0 g.1 ∷ []
  first-picked = at (first-of g.1 (All-head (IsGroup key) g (h ∷ hs) r.groups).filled)
    where
      at : (x : ℕ) × (rest : List ℕ) × (g.1 ≡ x ∷ rest) → filter (begins_run key l) g.1 ≡ first_or 0 g.1 ∷ []
      at w = ap (filter (begins_run key l)) w.2 ∙ filter-append (begins_run key l) (w.0 ∷ []) w.1
          ∙ ap (λ (z : List ℕ). z ++ filter (begins_run key l) w.1) (filter-all (begins_run key l) (w.0 ∷ []) only)
          ∙ ap (λ (z : List ℕ). w.0 ∷ z) (filter-none (begins_run key l) w.1 (others-not w.0 w.1 w.2)) ∙ ap (λ z. z ∷ []) (sym (ap (first_or 0) w.2))
        where
          only : (x : ℕ) → is_member x (w.0 ∷ []) ≡ true → begins_run key l x ≡ true
          only x m = elim (member-cases x w.0 [] m) [ inl e ↦ subst (λ z. begins_run key l z ≡ true) e (first-is w.0 w.1 w.2) | inr n ↦ absurd (true≢false (sym n)) ]

-- so of each group its first edge
pub all-picked : (key : ℕ → ℕ) (l : List ℕ) (gs : List (ℕ × List ℕ)) → is_distinct l ≡ true → InRuns key l gs → 1 < length gs → All (λ (g : ℕ × List ℕ). filter (begins_run key l) g.1 ≡ first_or 0 g.1 ∷ []) gs
all-picked key l gs d r two = go [] gs refl
  where
    go : (us vs : List (ℕ × List ℕ)) → gs ≡ us ++ vs → All (λ (g : ℕ × List ℕ). filter (begins_run key l) g.1 ≡ first_or 0 g.1 ∷ []) vs
    go us [] e = All-nil (λ (g : ℕ × List ℕ). filter (begins_run key l) g.1 ≡ first_or 0 g.1 ∷ [])
    go us (g ∷ vs) e = All-cons (λ (g : ℕ × List ℕ). filter (begins_run key l) g.1 ≡ first_or 0 g.1 ∷ []) g vs (one (vs ++ us) refl) (go (us ++ g ∷ []) vs (e ∙ sym (append_assoc us (g ∷ []) vs)))
      where
        turn : IsTurn gs (g ∷ (vs ++ us))
        turn = record { front = us; back = g ∷ vs; before = e; after = refl }

        one : (rest : List (ℕ × List ℕ)) → vs ++ us ≡ rest → filter (begins_run key l) g.1 ≡ first_or 0 g.1 ∷ []
        one [] q = absurd (omega (arith, two, IsTurn-length gs (g ∷ (vs ++ us)) turn, ap (λ (z : List (ℕ × List ℕ)). length z) q))
        one (h ∷ hs) q = first-picked key l d g h hs (subst (λ (z : List (ℕ × List ℕ)). InRuns key l (g ∷ z)) q (runs-turn key l gs (g ∷ (vs ++ us)) r turn))

keys-picked : (key : ℕ → ℕ) (gs : List (ℕ × List ℕ)) → All (IsGroup key) gs → map key (map (λ (g : ℕ × List ℕ). first_or 0 g.1) gs) ≡ group_keys gs
keys-picked key [] a = refl
keys-picked key (g ∷ gs) a =
    let own = All-head (IsGroup key) g gs a in
    let w = first-of g.1 own.filled in
    let e : key (first_or 0 g.1) ≡ g.0 = own.same_key (first_or 0 g.1) (ap (λ (z : List ℕ). is_member (first_or 0 z) z) w.2 ∙ member-head w.0 w.1) in
    ap (λ z. z ∷ map key (map (λ (g : ℕ × List ℕ). first_or 0 g.1) gs)) e ∙ ap (λ (z : List ℕ). g.0 ∷ z) (keys-picked key gs (All-tail (IsGroup key) g gs a))

-- their keys are those of the groups, in their cyclic order
pub run-keys : (key : ℕ → ℕ) (l : List ℕ) (gs : List (ℕ × List ℕ)) → is_distinct l ≡ true → InRuns key l gs → 1 < length gs → IsTurn (map key (filter (begins_run key l) l)) (group_keys gs)
run-keys key l gs d r two = subst (IsTurn (map key (filter (begins_run key l) l))) (keys-picked key gs r.groups)
    (IsTurn-map key (filter (begins_run key l) l) (map (λ (g : ℕ × List ℕ). first_or 0 g.1) gs) (runs-picked key l gs (begins_run key l) (λ g. first_or 0 g.1) r (all-picked key l gs d r two)))

module _ (g : Multigraph) (nodes : List Node) (b : IsBlockTree g nodes) (r : List (List ℕ)) (p : IsPlaneSystem g r) (k : ℕ) (l : k < length nodes) (v : ℕ) (has : has_vertex nodes k v ≡ true) where
  runs : (gs : List (ℕ × List ℕ)) × InRuns (group nodes k) (order_at r v) gs
  runs = plane-contiguous g nodes r b p k v has

  -- a node with a choice has more than one group at each of its vertices
  two-rigid : (node_at nodes k).kind ≡ R → 1 < length runs.0
  two-rigid e = omega (arith, rigid-three g nodes b r k v p (l, e) has, ap length (met-runs (group nodes k) (order_at r v) runs.0 runs.1), IsTurn-length (group_keys runs.0) (from_least (group_keys runs.0)) (from_least-turn (group_keys runs.0)), length-map runs.0 (λ (h : ℕ × List ℕ). h.0))

  two-bond : (node_at nodes k).kind ≡ P → 1 < length runs.0
  two-bond e = omega (
    arith,
    (of-kind g nodes b k P (l, e)).three,
    length-map (items_of (components nodes) k) piece_ends,
    ap length (node-pieces nodes k),
    length-map (node_at nodes k).items piece_of,
    length-map (node_at nodes k).items item_key,
    length_permutation (node_keys nodes k) (group_keys runs.0) (runs-arranged g nodes b r p k (l, e) v runs.0 has runs.1),
    length-map runs.0 (λ (h : ℕ × List ℕ). h.0),
  )

  once : is_distinct (order_at r v) ≡ true
  once = order-distinct g r v p.system (vertex-in g nodes b k v has)

  met-turn : 1 < length runs.0 → IsTurn (runs_met nodes r k v) (group_keys runs.0)
  met-turn two = run-keys (group nodes k) (order_at r v) runs.0 once runs.1 two

  met-member : 1 < length runs.0 → (x : ℕ) → is_member x (runs_met nodes r k v) ≡ is_member x (keys_at nodes k v)
  met-member two x = sym (IsTurn-member (runs_met nodes r k v) (group_keys runs.0) x (met-turn two)) ∙ runs-keys g nodes b r k v runs.0 p.system has runs.1 x

  met-round : 1 < length runs.0 → from_least (runs_met nodes r k v) ≡ keys_round nodes r k v
  met-round two = sym (from_least-same (group_keys runs.0) (runs_met nodes r k v) (IsTurn-sym (runs_met nodes r k v) (group_keys runs.0) (met-turn two)) runs.1.once) ∙ sym (met-runs (group nodes k) (order_at r v) runs.0 runs.1)

-- the first member of a list that has one
head-member : (l : List ℕ) → 0 < length l → is_member (first_or 0 l) l ≡ true
head-member [] h = absurd (omega (arith, h))
head-member (x ∷ l) h = member-head x l

-- a node with a choice
module _ (g : Multigraph) (nodes : List Node) (b : IsBlockTree g nodes) (k : ℕ) (l : k < length nodes) (kind : Kind) (e : (node_at nodes k).kind ≡ kind) (which : (kind ≡ P) ⊎ (kind ≡ R)) where
  two-groups : (t : List (List ℕ)) (pt : IsPlaneSystem g t) → 1 < length (runs g nodes b t pt k l (least_vertex nodes k) (least-has g nodes b k l)).0
  two-groups t pt = elim which [
    | inl a ↦ two-bond g nodes b t pt k l (least_vertex nodes k) (least-has g nodes b k l) (e ∙ a)
    | inr a ↦ two-rigid g nodes b t pt k l (least_vertex nodes k) (least-has g nodes b k l) (e ∙ a)
  ]

  kept-keys : (keys : List ℕ) → choice_of_kind kind keys ≡ keys
  kept-keys keys = elim which [ inl a ↦ subst (λ (z : Kind). choice_of_kind z keys ≡ keys) (sym a) refl | inr a ↦ subst (λ (z : Kind). choice_of_kind z keys ≡ keys) (sym a) refl ]

  round-own : (t : List (List ℕ)) → choice nodes t k ≡ keys_round nodes t k (least_vertex nodes k)
  round-own t = choice-round g nodes b t k kind e ∙ kept-keys (keys_round nodes t k (least_vertex nodes k))

  own-choice : (t : List (List ℕ)) (pt : IsPlaneSystem g t) → choice nodes t k ≡ from_least (runs_met nodes t k (least_vertex nodes k))
  own-choice t pt = round-own t ∙ sym (met-round g nodes b t pt k l (least_vertex nodes k) (least-has g nodes b k l) (two-groups t pt))

  choice-member : (t : List (List ℕ)) (pt : IsPlaneSystem g t) (x : ℕ) → is_member x (choice nodes t k) ≡ is_member x (keys_at nodes k (least_vertex nodes k))
  choice-member t pt x = ap (is_member x) (own-choice t pt) ∙ from_least-member (runs_met nodes t k (least_vertex nodes k)) x ∙ met-member g nodes b t pt k l (least_vertex nodes k) (least-has g nodes b k l) (two-groups t pt) x

-- it has as many keys in each plane rotation system
pub choice-long : (g : Multigraph) (nodes : List Node) (b : IsBlockTree g nodes) (r q : List (List ℕ)) (p : IsPlaneSystem g r) (s : IsPlaneSystem g q) (k : ℕ) → k < length nodes → length (choice nodes r k) ≡ length (choice nodes q k)
choice-long g nodes b r q p s k l = by_kind (node_at nodes k).kind refl
  where
    round-long : (kind : Kind) → (node_at nodes k).kind ≡ kind → (kind ≡ P) ⊎ (kind ≡ R) → length (choice nodes r k) ≡ length (choice nodes q k)
    round-long kind e which = length-from_members (choice nodes r k) (choice nodes q k) (choice-normal g nodes b r k p l).0 (choice-normal g nodes b q k s l).0
        (λ z. choice-member g nodes b k l kind e which r p z ∙ sym (choice-member g nodes b k l kind e which q s z))

    by_kind : (kind : Kind) → (node_at nodes k).kind ≡ kind → length (choice nodes r k) ≡ length (choice nodes q k)
    by_kind P e = round-long P e (inl refl)
    by_kind R e = round-long R e (inr refl)
    by_kind S e = ap length (choice-round g nodes b r k S e ∙ sym (choice-round g nodes b q k S e))
    by_kind B e = ap length (choice-round g nodes b r k B e ∙ sym (choice-round g nodes b q k B e))

module _ (g : Multigraph) (nodes : List Node) (b : IsBlockTree g nodes) (r q : List (List ℕ)) (p : IsPlaneSystem g r) (s : IsPlaneSystem g q) (k : ℕ) (l : k < length nodes) (old : List ℕ)
    (kind : Kind) (is : (node_at nodes k).kind ≡ kind) (which : (kind ≡ P) ⊎ (kind ≡ R)) (o : old ≡ choice nodes q k) where
  abbrev v : ℕ
  v = least_vertex nodes k

  abbrev has : has_vertex nodes k v ≡ true
  has = least-has g nodes b k l

  two : (t : List (List ℕ)) (pt : IsPlaneSystem g t) → 1 < length (runs g nodes b t pt k l v has).0
  two t pt = two-groups g nodes b k l kind is which t pt

  choice-met : (t : List (List ℕ)) (pt : IsPlaneSystem g t) → choice nodes t k ≡ from_least (runs_met nodes t k v)
  choice-met t pt = own-choice g nodes b k l kind is which t pt

  some : 0 < length old
  some = omega (
    arith,
    ap length (o ∙ choice-met q s),
    IsTurn-length (runs_met nodes q k v) (from_least (runs_met nodes q k v)) (from_least-turn (runs_met nodes q k v)),
    IsTurn-length (runs_met nodes q k v) (group_keys (runs g nodes b q s k l v has).0) (met-turn g nodes b q s k l v has (two q s)),
    length-map (runs g nodes b q s k l v has).0 (λ (h : ℕ × List ℕ). h.0),
    two q s,
  )

  written : from_least old ≡ old
  written = ap from_least o ∙ (choice-normal g nodes b q k s l).1 ∙ sym o

  -- keys in the cyclic order of the choice, from the first of another choice on
  begun : (met : List ℕ) → choice nodes r k ≡ from_least met → (0 < length old) × (is_member (first_or 0 old) met ≡ true) × (turned met (first_or 0 old) ≡ choice nodes r k)
  begun met e = (
    some,
    same (first_or 0 old) ∙ head-member old some,
    ap (turned met) (sym (least-same met old same ∙ sym (from_least-first_or old (first_or 0 old) (head-member old some)) ∙ ap (first_or 0) written)) ∙ sym e,
  )
    where
      same : (x : ℕ) → is_member x met ≡ is_member x old
      same x = sym (from_least-member met x) ∙ ap (is_member x) (sym e) ∙ choice-member g nodes b k l kind is which r p x ∙ sym (ap (is_member x) o ∙ choice-member g nodes b k l kind is which q s x)

  -- the keys at the least vertex
  pub choice-from : (0 < length old) × (is_member (first_or 0 old) (runs_met nodes r k v) ≡ true) × (turned (runs_met nodes r k v) (first_or 0 old) ≡ choice nodes r k)
  choice-from = begun (runs_met nodes r k v) (choice-met r p)

-- one edge more on the way round
filter-first : (p : ℕ → Bool) (x : ℕ) (xs : List ℕ) → p x ≡ true → filter p (x ∷ xs) ≡ x ∷ filter p xs
filter-first p x xs h = filter-append p (x ∷ []) xs ∙ ap (λ (z : List ℕ). z ++ filter p xs) (filter-all p (x ∷ []) (λ y m. elim (member-cases y x [] m) [ inl e ↦ subst (λ z. p z ≡ true) e h | inr n ↦ absurd (true≢false (sym n)) ]))

filter-passed : (p : ℕ → Bool) (x : ℕ) (xs : List ℕ) → p x ≡ false → filter p (x ∷ xs) ≡ filter p xs
filter-passed p x xs h = filter-append p (x ∷ []) xs ∙ ap (λ (z : List ℕ). z ++ filter p xs) (filter-none p (x ∷ []) (λ y m. elim (member-cases y x [] m) [ inl e ↦ subst (λ z. p z ≡ false) e h | inr n ↦ absurd (true≢false (sym n)) ]))

pub runs-more : (key : ℕ → ℕ) (p : ℕ → Bool) (keys new before rest whole : List ℕ) (e k : ℕ) → before ≡ e ∷ rest → p e ≡ true → k ≡ key e → new ≡ keys ++ k ∷ [] → keys ++ map key (filter p before) ≡ whole → new ++ map key (filter p rest) ≡ whole
runs-more key p keys new before rest whole e k b h i n w = ap (λ (z : List ℕ). z ++ map key (filter p rest)) n ∙ append_assoc keys (k ∷ []) (map key (filter p rest)) ∙ ap (λ z. keys ++ z ∷ map key (filter p rest)) i
    ∙ ap (λ (z : List ℕ). keys ++ map key z) (sym (ap (filter p) b ∙ filter-first p e rest h)) ∙ w

pub runs-passed : (key : ℕ → ℕ) (p : ℕ → Bool) (keys before rest whole : List ℕ) (e : ℕ) → before ≡ e ∷ rest → p e ≡ false → keys ++ map key (filter p before) ≡ whole → keys ++ map key (filter p rest) ≡ whole
runs-passed key p keys before rest whole e b h w = ap (λ (z : List ℕ). keys ++ map key z) (sym (ap (filter p) b ∙ filter-passed p e rest h)) ∙ w

-- whether another key stands before an edge
pub begins-yes : (key : ℕ → ℕ) (l : List ℕ) (e : ℕ) → key (predecessor l e) ≢ key e → begins_run key l e ≡ true
begins-yes key l e n = ap not (ne_eqb (key (predecessor l e)) (key e) n)

pub begins-no : (key : ℕ → ℕ) (l : List ℕ) (e : ℕ) → key (predecessor l e) ≡ key e → begins_run key l e ≡ false
begins-no key l e q = ap not (eq-eqb (key (predecessor l e)) (key e) q)
