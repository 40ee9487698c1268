-- Choices tell a plane rotation system, are possible, and every selection of possible choices is that of one.
use Rattle.std.proofs.Common.{◌≡◌, ◌≢◌, ℕ, suc, ◌<◌, ◌≤◌, ◌⊎◌, ◌==◌, inl, inr, Bool, true, cond, List, [], ◌∷◌, length, map, filter, reverse, slice_index_or, refl, sym, ap, ◌∙◌, subst, arith}
use Rattle.std.proofs.lemmas.Bool.{cases_Bool, cases_eq, cases_lt, true≢false, eq-eqb, ne_eqb}
use Rattle.std.proofs.lemmas.List.{length-map, get_or-map}
use Rattle.std.proofs.lemmas.List.Sorted.{length_permutation, IsPermutation-sym, IsPermutation-trans}
use Rattle.permutations.specs.Cyclic.{first_or, from_least}
use Rattle.permutations.specs.Members.{is_member, is_distinct, place_of}
use Rattle.permutations.specs.Runs.{group_keys}
use Rattle.permutations.proofs.Arrangements.{permutation-member, permutation-distinct}
use Rattle.permutations.proofs.Filter.{filter-yes, filter-no}
use Rattle.permutations.proofs.Members.{member-reverse, distinct-reverse}
use Rattle.permutations.proofs.NormalForm.{from_least-same, from_least-distinct, from_least-twice, written-first}
use Rattle.permutations.proofs.Places.{place-of, told-distinct, place-below}
use Rattle.permutations.proofs.Mapped.{map-member}
use Rattle.multigraph.specs.Graph.{Multigraph, numbers_below, incident_edges}
use Rattle.multigraph.specs.Part.{Rises}
use Rattle.multigraph.proofs.Below.{get_or-numbers_below, length-numbers_below}
use Rattle.multigraph.proofs.Places.{rises-once}
use Rattle.contractions.proofs.Neighbours.{incident-three}
use Rattle.rotations.specs.Rotation.{order_at, IsRotationSystem, IsCyclicOrder}
use Rattle.faces.specs.Euler.{IsPlane, IsPlaneSystem}
use Rattle.faces.proofs.MapMirror.{order-least}
use Rattle.planarity.proofs.TwoSystems.{two-systems}
use Rattle.pair_split.specs.Skeleton.{is_end_of}
use Rattle.pair_split.specs.Split.{piece_ends, skeleton}
use Rattle.pair_split.specs.Tutte.{Node, piece_of, components, node_at, node_item, group, IsTutte}
use Rattle.pair_split.specs.declared.components.Kind.{Kind}
use Rattle.pair_split.specs.declared.components.Kind.TheVariants.{S, P, R, B}
use Rattle.pair_split.specs.declared.components.Item.{Item}
use Rattle.pair_split.proofs.NodeParts.{node-pieces}
use Rattle.skeletons.specs.Items.{ends_item, item_key, keys_at, node_keys, has_vertex, least_vertex, greatest_vertex, IsBlockTree}
use Rattle.skeletons.specs.Round.{keys_round}
use Rattle.skeletons.specs.Choices.{choice_of_kind, choice}
use Rattle.skeletons.specs.Moves.{IsNodeOfKind}
use Rattle.skeletons.specs.Families.{skeleton_graph, system_at, AreSkeletonSystems, keys_of, StandInOrder, FollowsFamily, IsPossibleFor, IsPossible}
use Rattle.skeletons.specs.Laws.{ChoicesTell, ChoiceIsPossible, SelectionExists}
use Rattle.skeletons.proofs.NodeItems.{no_item, vertex-node}
use Rattle.skeletons.proofs.KeyRuns.{met-runs, order-met}
use Rattle.skeletons.proofs.Systems.{order-arranged}
use Rattle.skeletons.proofs.Vertices.{least-has, greatest-has, bond-vertex, poles-differ, bond-keys}
use Rattle.skeletons.proofs.Moved.{keys-round_items}
use Rattle.skeletons.proofs.Unique.{one-system}
use Rattle.skeletons.proofs.Places.{round-item, skeleton-system, skeleton-is, skeleton-keys, family-followed}
use Rattle.skeletons.proofs.Leading.{bond-choice}
use Rattle.skeleton_runs.proofs.Contiguous.{plane-contiguous}
use Rattle.skeleton_runs.proofs.SkeletonGraph.{skeleton-triconnected}
use Rattle.skeleton_planes.proofs.Followed.{follows-plane}
use Rattle.skeleton_planes.proofs.Planar.{skeleton-planar}
use Rattle.skeleton_choices.proofs.Rounds.{skeleton_round, round-length, mirror-keys}
use Rattle.skeleton_choices.proofs.Plane.{three-differ, few-equal, Parts, parts, same-round, of-kind, bond-is_plane, plane-bond, choice-round}

-- what passes of an image is the image of what passes there
filter-long : (v : ℕ) (items : List Item) → length (filter (is_end_of v) (map piece_ends (map piece_of items))) ≡ length (filter (ends_item v) items)
filter-long v [] = refl
filter-long v (item ∷ items) = elim (cases_Bool (ends_item v item)) [
  | inl y ↦ ap length (filter-yes (is_end_of v) (item.a, item.b) (map piece_ends (map piece_of items)) y) ∙ ap suc (filter-long v items) ∙ sym (ap length (filter-yes (ends_item v) item items y))
  | inr n ↦ ap length (filter-no (is_end_of v) (item.a, item.b) (map piece_ends (map piece_of items)) n) ∙ filter-long v items ∙ sym (ap length (filter-no (ends_item v) item items n))
]

filter-less : {X : Type 0} (p : X → Bool) (l : List X) → length (filter p l) ≤ length l
filter-less p [] = omega arith
filter-less p (x ∷ l) = elim (cases_Bool (p x)) [
  | inl y ↦ subst (λ n. n ≤ length (x ∷ l)) (sym (ap length (filter-yes p x l y))) (let d : length (filter p l) ≤ length l = filter-less p l in omega (arith, d))
  | inr n ↦ subst (λ z. z ≤ length (x ∷ l)) (sym (ap length (filter-no p x l n))) (let d : length (filter p l) ≤ length l = filter-less p l in omega (arith, d))
]

-- the first of rising numbers is the least
rises-least : (l : List ℕ) → Rises l → (e : ℕ) → is_member e l ≡ true → first_or 0 l ≤ e
rises-least [] r e m = absurd (true≢false (sym m))
rises-least (x ∷ l) r e m = at (place-of (x ∷ l) e m)
  where
    at : (i : ℕ) × (i < length (x ∷ l)) × (slice_index_or (x ∷ l) i 0 ≡ e) → x ≤ e
    at w = elim (cases_eq w.0 0) [
      | inl z ↦ let q : x ≡ e = ap (λ i. slice_index_or (x ∷ l) i 0) (sym z) ∙ w.2 in omega (arith, q)
      | inr n ↦ let d : x < slice_index_or (x ∷ l) w.0 0 = r 0 w.0 (omega (arith, n)) w.1 in omega (arith, d, w.2)
    ]

module _ (g : Multigraph) (nodes : List Node) (b : IsBlockTree g nodes) where
  abbrev t : IsTutte g nodes
  t = b.tree

  -- the keys round a vertex in a plane rotation system: each once, from the least on
  pub round-once : (r : List (List ℕ)) (k v : ℕ) → IsPlaneSystem g r → has_vertex nodes k v ≡ true → is_distinct (keys_round nodes r k v) ≡ true
  round-once r k v p h = let w = plane-contiguous g nodes r b p k v h in ap is_distinct (met-runs (group nodes k) (order_at r v) w.0 w.1) ∙ from_least-distinct (group_keys w.0) w.1.once

  pub round-written : (r : List (List ℕ)) (k v : ℕ) → IsPlaneSystem g r → has_vertex nodes k v ≡ true → from_least (keys_round nodes r k v) ≡ keys_round nodes r k v
  round-written r k v p h = let w = plane-contiguous g nodes r b p k v h in
      let e = met-runs (group nodes k) (order_at r v) w.0 w.1 in
      ap from_least e ∙ from_least-twice (group_keys w.0) w.1.once ∙ sym e

  -- with two keys at most there is one order
  few-rounds : (r q : List (List ℕ)) (k v : ℕ) → IsPlaneSystem g r → IsPlaneSystem g q → has_vertex nodes k v ≡ true → length (keys_at nodes k v) ≤ 2 → keys_round nodes r k v ≡ keys_round nodes q k v
  few-rounds r q k v p s h few =
      let a = keys-round_items g nodes r b p.system (plane-contiguous g nodes r b p) k v h in
      let c = keys-round_items g nodes q b s.system (plane-contiguous g nodes q b s) k v h in
      few-equal (keys_round nodes r k v) (keys_round nodes q k v) (round-once r k v p h) (omega (arith, few, length_permutation (keys_at nodes k v) (keys_round nodes r k v) a))
      (IsPermutation-trans (keys_round nodes r k v) (keys_at nodes k v) (keys_round nodes q k v) (IsPermutation-sym (keys_at nodes k v) (keys_round nodes r k v) a) c)
      (round-written r k v p h) (round-written q k v s h)

  keys-long : (k v : ℕ) → length (filter (is_end_of v) (skeleton (components nodes) k)) ≡ length (keys_at nodes k v)
  keys-long k v = ap (λ z. length (filter (is_end_of v) (map piece_ends z))) (node-pieces nodes k) ∙ filter-long v (node_at nodes k).items ∙ sym (length-map (filter (ends_item v) (node_at nodes k).items) item_key)

  -- of a triconnected node: the same keys at one vertex, or the reverse, and so at all
  pub rigid-rounds : (r q : List (List ℕ)) (k : ℕ) → IsPlaneSystem g r → IsPlaneSystem g q → IsNodeOfKind nodes k R
      → ((v : ℕ) → has_vertex nodes k v ≡ true → keys_round nodes q k v ≡ keys_round nodes r k v) ⊎ ((v : ℕ) → has_vertex nodes k v ≡ true → keys_round nodes q k v ≡ from_least (reverse (keys_round nodes r k v)))
  rigid-rounds r q k p s is =
      let l : k < length nodes = is.0 in
      let x : Parts g nodes b r = parts g nodes b r p in
      let y : Parts g nodes b q = parts g nodes b q s in
      let ok = skeleton-triconnected g nodes b k is in
      elim (two-systems (skeleton_graph nodes k) ok.0 ok.1 (system_at y.family k) (system_at x.family k) (y.systems.systems k l) (x.systems.systems k l) (y.plane k l) (x.plane k l)) [
        | inl e ↦ inl (λ v h. same-round g nodes b q y.family k v l y.follows h ∙ ap (λ z. skeleton_round g nodes t k l z v) e ∙ sym (same-round g nodes b r x.family k v l x.follows h))
        | inr e ↦ inr (λ v h. same-round g nodes b q y.family k v l y.follows h ∙ ap (λ z. skeleton_round g nodes t k l z v) e ∙ mirror-keys g nodes t k l (system_at x.family k) (x.systems.systems k l) v h
            ∙ ap (λ (z : List ℕ). from_least (reverse z)) (sym (same-round g nodes b r x.family k v l x.follows h)))
      ]

  -- there are three keys at each vertex of such a node
  pub rigid-three : (r : List (List ℕ)) (k v : ℕ) → IsPlaneSystem g r → IsNodeOfKind nodes k R → has_vertex nodes k v ≡ true → 3 ≤ length (keys_round nodes r k v)
  rigid-three r k v p is h =
      let l : k < length nodes = is.0 in
      let x : Parts g nodes b r = parts g nodes b r p in
      let ok = skeleton-triconnected g nodes b k is in
      let e : keys_round nodes r k v ≡ skeleton_round g nodes t k l (system_at x.family k) v = same-round g nodes b r x.family k v l x.follows h in
      let d : 3 ≤ length (incident_edges (skeleton_graph nodes k) (place_of (node_at nodes k).vertices v)) = incident-three (skeleton_graph nodes k) ok.0 ok.1 (place_of (node_at nodes k).vertices v) (place-below (node_at nodes k).vertices v h) in
      omega (arith, d, round-length g nodes t k l (system_at x.family k) (x.systems.systems k l) v h, ap length e)

  -- another choice of a triconnected node is the reverse
  pub two-choices : (r q : List (List ℕ)) (k : ℕ) → IsPlaneSystem g r → IsPlaneSystem g q → IsNodeOfKind nodes k R → choice nodes r k ≢ choice nodes q k → choice nodes q k ≡ from_least (reverse (choice nodes r k))
  two-choices r q k p s is n =
      let v : ℕ = least_vertex nodes k in
      let h : has_vertex nodes k v ≡ true = least-has g nodes b k is.0 in
      elim (rigid-rounds r q k p s is) [
        | inl e ↦ absurd (n (choice-round g nodes b r k R is.1 ∙ sym (e v h) ∙ sym (choice-round g nodes b q k R is.1)))
        | inr e ↦ choice-round g nodes b q k R is.1 ∙ e v h ∙ ap (λ (z : List ℕ). from_least (reverse z)) (sym (choice-round g nodes b r k R is.1))
      ]

  -- the keys at both poles of a bond
  pub bond-round : (r : List (List ℕ)) (k : ℕ) → IsPlaneSystem g r → IsNodeOfKind nodes k P → keys_round nodes r k (greatest_vertex nodes k) ≡ from_least (reverse (keys_round nodes r k (least_vertex nodes k)))
  bond-round r k p is =
      let l : k < length nodes = is.0 in
      let x : Parts g nodes b r = parts g nodes b r p in
      same-round g nodes b r x.family k (greatest_vertex nodes k) l x.follows (greatest-has g nodes b k l)
      ∙ plane-bond g nodes b k is (system_at x.family k) (x.systems.systems k l) (x.plane k l)
      ∙ ap (λ (z : List ℕ). from_least (reverse z)) (sym (same-round g nodes b r x.family k (least_vertex nodes k) l x.follows (least-has g nodes b k l)))

  -- with the same choice the keys are the same at all vertices
  rounds : (r q : List (List ℕ)) (k v : ℕ) → IsPlaneSystem g r → IsPlaneSystem g q → k < length nodes → has_vertex nodes k v ≡ true → choice nodes r k ≡ choice nodes q k → keys_round nodes r k v ≡ keys_round nodes q k v
  rounds r q k v p s l h same = by_kind (node_at nodes k).kind refl
    where
      by_kind : (kind : Kind) → (node_at nodes k).kind ≡ kind → keys_round nodes r k v ≡ keys_round nodes q k v
      by_kind S e =
          let d = (of-kind g nodes b k S (l, e)).degrees v (sym (t.in_order.vertices k v l) ∙ h) in
          few-rounds r q k v p s h (omega (arith, d, keys-long k v))
      by_kind B e = few-rounds r q k v p s h (omega (arith, (of-kind g nodes b k B (l, e)).few, keys-long k v, filter-less (is_end_of v) (skeleton (components nodes) k)))
      by_kind P e =
          let least : keys_round nodes r k (least_vertex nodes k) ≡ keys_round nodes q k (least_vertex nodes k) = sym (choice-round g nodes b r k P e) ∙ same ∙ choice-round g nodes b q k P e in
          elim (bond-vertex g nodes b k (l, e) v h) [
            | inl u ↦ subst (λ z. keys_round nodes r k z ≡ keys_round nodes q k z) (sym u) least
            | inr u ↦ subst (λ z. keys_round nodes r k z ≡ keys_round nodes q k z) (sym u) (bond-round r k p (l, e) ∙ ap (λ (z : List ℕ). from_least (reverse z)) least ∙ sym (bond-round q k s (l, e)))
          ]
      by_kind R e =
          let u : ℕ = least_vertex nodes k in
          let hu : has_vertex nodes k u ≡ true = least-has g nodes b k l in
          let least : keys_round nodes r k u ≡ keys_round nodes q k u = sym (choice-round g nodes b r k R e) ∙ same ∙ choice-round g nodes b q k R e in
          elim (rigid-rounds r q k p s (l, e)) [
            | inl y ↦ sym (y v h)
            | inr y ↦ absurd (three-differ (keys_round nodes r k u) (round-once r k u p hu) (round-written r k u p hu) (rigid-three r k u p (l, e) hu) (sym (y u hu) ∙ sym least))
          ]

  pub tell : (r q : List (List ℕ)) → IsPlaneSystem g r → IsPlaneSystem g q → ((k : ℕ) → k < length nodes → choice nodes r k ≡ choice nodes q k) → r ≡ q
  tell r q p s same = one-system g nodes t r q (keys_round nodes r) p.system s.system
      (λ k v h. let w = plane-contiguous g nodes r b p k v h in order-met (group nodes k) (order_at r v) w.0 w.1)
      (λ k v h. let w = plane-contiguous g nodes q b s k v h in subst (StandInOrder (group nodes k) (order_at q v)) (sym (rounds r q k v p s (vertex-node nodes k v h) h (same k (vertex-node nodes k v h)))) (order-met (group nodes k) (order_at q v) w.0 w.1))

  -- the keys round a vertex of a skeleton stand from the least on
  module _ (k : ℕ) (l : k < length nodes) (s : List (List ℕ)) (system : IsRotationSystem (skeleton_graph nodes k) s) where
    keys-rise : (i j : ℕ) → i ≤ j → j < length (node_at nodes k).items → (node_item nodes k i).key ≤ (node_item nodes k j).key
    keys-rise i j a c = elim (cases_eq i j) [
      | inl e ↦ let q : (node_item nodes k i).key ≡ (node_item nodes k j).key = ap (λ z. (node_item nodes k z).key) e in omega (arith, q)
      | inr n ↦
          let d : slice_index_or (node_keys nodes k) i 0 < slice_index_or (node_keys nodes k) j 0 = t.in_order.keys_rise k l i j (omega (arith, a, n)) (subst (λ z. j < z) (sym (length-map (node_at nodes k).items item_key)) c) in
          let ei : slice_index_or (node_keys nodes k) i 0 ≡ (node_item nodes k i).key = get_or-map item_key (node_at nodes k).items i no_item 0 (omega (arith, a, c)) in
          let ej : slice_index_or (node_keys nodes k) j 0 ≡ (node_item nodes k j).key = get_or-map item_key (node_at nodes k).items j no_item 0 c in
          omega (arith, d, ei, ej)
    ]

    skeleton-written : (v : ℕ) → has_vertex nodes k v ≡ true → skeleton_round g nodes t k l s v ≡ keys_of nodes k (order_at s (place_of (node_at nodes k).vertices v))
    skeleton-written v h = written-first (map key order) (λ e m. let w = map-member key order e m in subst (λ z. first_or 0 (map key order) ≤ z) w.2 (first order refl w.0 w.1))
      where
        key : ℕ → ℕ
        key i = (node_item nodes k i).key

        order : List ℕ
        order = order_at s (place_of (node_at nodes k).vertices v)

        first : (o : List ℕ) → o ≡ order → (i : ℕ) → is_member i order ≡ true → first_or 0 (map key order) ≤ key i
        first [] e i m = absurd (true≢false (sym (ap (is_member i) e ∙ m)))
        first (x ∷ o) e i m =
            let low : first_or 0 order ≤ i = order-least (skeleton_graph nodes k) s (place_of (node_at nodes k).vertices v) system (place-below (node_at nodes k).vertices v h) i m in
            let q : x ≡ first_or 0 order = ap (first_or 0) e in
            subst (λ (z : List ℕ). first_or 0 (map key z) ≤ key i) e (keys-rise x i (omega (arith, low, q)) (round-item g nodes t k l s v i system h m).0)

  -- the choice of a plane rotation system is possible
  pub possible : (r : List (List ℕ)) (k : ℕ) → IsPlaneSystem g r → k < length nodes → IsPossible nodes k (choice nodes r k)
  possible r k p l = subst (λ (kind : Kind). IsPossibleFor kind nodes k (choice nodes r k)) refl (by_kind (node_at nodes k).kind refl)
    where
      by_kind : (kind : Kind) → (node_at nodes k).kind ≡ kind → IsPossibleFor kind nodes k (choice nodes r k)
      by_kind S e = choice-round g nodes b r k S e
      by_kind B e = choice-round g nodes b r k B e
      by_kind P e =
          let c = bond-choice g nodes b r k p.system (plane-contiguous g nodes r b p) (l, e) in
          let rise : Rises (node_keys nodes k) = t.in_order.keys_rise k l in
          subst (IsCyclicOrder (node_keys nodes k)) c.1 (order-arranged (node_keys nodes k) (choice nodes r k) (told-distinct (node_keys nodes k) (rises-once (node_keys nodes k) rise)) (rises-least (node_keys nodes k) rise) c.0)
      by_kind R e =
          let x : Parts g nodes b r = parts g nodes b r p in
          let h : has_vertex nodes k (least_vertex nodes k) ≡ true = least-has g nodes b k l in
          record {
            system = system_at x.family k;
            plane = record { system = x.systems.systems k l; plane = x.plane k l };
            order = sym (skeleton-written k l (system_at x.family k) (x.systems.systems k l) (least_vertex nodes k) h) ∙ sym (same-round g nodes b r x.family k (least_vertex nodes k) l x.follows h) ∙ sym (choice-round g nodes b r k R e);
          }

  -- a plane rotation system of a skeleton with a given choice
  pub record Selected (k : ℕ) (l : k < length nodes) (keys : List ℕ) : Type 0 where
    pub system : List (List ℕ)
    pub plane : IsPlaneSystem (skeleton_graph nodes k) system
    pub chosen : choice_of_kind (node_at nodes k).kind (skeleton_round g nodes t k l system (least_vertex nodes k)) ≡ keys

  -- of a bond
  module _ (k : ℕ) (is : IsNodeOfKind nodes k P) (keys : List ℕ) (c : IsCyclicOrder (node_keys nodes k) keys) where
    node-once : is_distinct (node_keys nodes k) ≡ true
    node-once = told-distinct (node_keys nodes k) (rises-once (node_keys nodes k) (t.in_order.keys_rise k is.0))

    keys-once : is_distinct keys ≡ true
    keys-once = permutation-distinct (node_keys nodes k) keys c.arranged node-once

    keys-written : from_least keys ≡ keys
    keys-written = written-first keys (λ e m. let d : first_or 0 (node_keys nodes k) ≤ e = rises-least (node_keys nodes k) (t.in_order.keys_rise k is.0) e (sym (permutation-member (node_keys nodes k) keys e c.arranged) ∙ m) in omega (arith, d, c.least_first))

    orders : ℕ → List ℕ
    orders v = cond (v == least_vertex nodes k) keys (reverse keys)

    orders-once : (v : ℕ) → has_vertex nodes k v ≡ true → is_distinct (orders v) ≡ true
    unfolding orders
    orders-once v h = elim (cases_eq v (least_vertex nodes k)) [
      | inl e ↦ ap (λ (z : Bool). is_distinct (cond z keys (reverse keys))) (eq-eqb v (least_vertex nodes k) e) ∙ keys-once
      | inr n ↦ ap (λ (z : Bool). is_distinct (cond z keys (reverse keys))) (ne_eqb v (least_vertex nodes k) n) ∙ distinct-reverse keys keys-once
    ]

    orders-members : (v x : ℕ) → has_vertex nodes k v ≡ true → is_member x (orders v) ≡ is_member x (keys_at nodes k v)
    unfolding orders
    orders-members v x h = elim (cases_eq v (least_vertex nodes k)) [
      | inl e ↦ ap (λ (z : Bool). is_member x (cond z keys (reverse keys))) (eq-eqb v (least_vertex nodes k) e) ∙ permutation-member (node_keys nodes k) keys x c.arranged ∙ sym (bond-keys g nodes b k is v x h)
      | inr n ↦ ap (λ (z : Bool). is_member x (cond z keys (reverse keys))) (ne_eqb v (least_vertex nodes k) n) ∙ member-reverse x keys ∙ permutation-member (node_keys nodes k) keys x c.arranged ∙ sym (bond-keys g nodes b k is v x h)
    ]

    bond-selected : (s : List (List ℕ)) × IsPlaneSystem (skeleton_graph nodes k) s × (skeleton_round g nodes t k is.0 s (least_vertex nodes k) ≡ keys)
    unfolding orders
    bond-selected = (s, record { system = system; plane = bond-is_plane g nodes b k is s system (greatest ∙ ap (λ (z : List ℕ). from_least (reverse z)) (sym least)) }, least)
      where
        s : List (List ℕ)
        s = skeleton-system g nodes t k is.0 orders orders-once orders-members

        system : IsRotationSystem (skeleton_graph nodes k) s
        system = skeleton-is g nodes t k is.0 orders orders-once orders-members

        round : (v : ℕ) → has_vertex nodes k v ≡ true → skeleton_round g nodes t k is.0 s v ≡ from_least (orders v)
        round v h = sym (from_least-same (orders v) _ (skeleton-keys g nodes t k is.0 orders orders-once orders-members v h) (orders-once v h))

        least : skeleton_round g nodes t k is.0 s (least_vertex nodes k) ≡ keys
        least = round (least_vertex nodes k) (least-has g nodes b k is.0) ∙ ap (λ (z : Bool). from_least (cond z keys (reverse keys))) (eq-eqb (least_vertex nodes k) (least_vertex nodes k) refl) ∙ keys-written

        greatest : skeleton_round g nodes t k is.0 s (greatest_vertex nodes k) ≡ from_least (reverse keys)
        greatest = round (greatest_vertex nodes k) (greatest-has g nodes b k is.0) ∙ ap (λ (z : Bool). from_least (cond z keys (reverse keys))) (ne_eqb (greatest_vertex nodes k) (least_vertex nodes k) (λ e. poles-differ g nodes b k is (sym e)))

  selected : (k : ℕ) (l : k < length nodes) (keys : List ℕ) → IsPossible nodes k keys → Selected k l keys
  selected k l keys possible = by_kind (node_at nodes k).kind refl possible
    where
      turn : (kind : Kind) → (node_at nodes k).kind ≡ kind → (s : List (List ℕ)) → choice_of_kind kind (skeleton_round g nodes t k l s (least_vertex nodes k)) ≡ keys → choice_of_kind (node_at nodes k).kind (skeleton_round g nodes t k l s (least_vertex nodes k)) ≡ keys
      turn kind e s h = ap (λ (z : Kind). choice_of_kind z (skeleton_round g nodes t k l s (least_vertex nodes k))) e ∙ h

      by_kind : (kind : Kind) → (node_at nodes k).kind ≡ kind → IsPossibleFor kind nodes k keys → Selected k l keys
      by_kind S e h = let w = skeleton-planar g nodes b k l (λ r. absurd (apart (sym e ∙ r))) in record { system = w.0; plane = w.1; chosen = turn S e w.0 (sym h) }
        where
          apart : S ≡ R → ⊥
          apart q = cc
      by_kind B e h = let w = skeleton-planar g nodes b k l (λ r. absurd (apart (sym e ∙ r))) in record { system = w.0; plane = w.1; chosen = turn B e w.0 (sym h) }
        where
          apart : B ≡ R → ⊥
          apart q = cc
      by_kind P e h = let w = bond-selected k (l, e) keys h in record { system = w.0; plane = w.1; chosen = turn P e w.0 w.2 }
      by_kind R e h = record { system = h.system; plane = h.plane; chosen = turn R e h.system (skeleton-written k l h.system h.plane.system (least_vertex nodes k) (least-has g nodes b k l) ∙ h.order) }

  -- every selection of possible choices is that of a plane rotation system
  pub selection : (keys : ℕ → List ℕ) → ((k : ℕ) → k < length nodes → IsPossible nodes k (keys k)) → (r : List (List ℕ)) × IsPlaneSystem g r × ((k : ℕ) → k < length nodes → choice nodes r k ≡ keys k)
  selection keys possible = (w.0, record { system = w.1; plane = follows-plane g nodes b family systems w.0 w.1 w.2 (λ k l. subst (λ z. IsPlane (skeleton_graph nodes k) z) (sym (at k l)) (member-is k l).plane) }, chosen)
    where
      picked : (k : ℕ) → (s : List (List ℕ)) × (k < length nodes → IsPlaneSystem (skeleton_graph nodes k) s × ((l : k < length nodes) → choice_of_kind (node_at nodes k).kind (skeleton_round g nodes t k l s (least_vertex nodes k)) ≡ keys k))
      picked k = elim (cases_lt k (length nodes)) [
        | inl l ↦ let w = selected k l (keys k) (possible k l) in (w.system, λ d. (w.plane, λ m. w.chosen))
        | inr n ↦ ([], λ d. absurd (omega (arith, d, n)))
      ]

      member : ℕ → List (List ℕ)
      member k = (picked k).0

      family : List (List (List ℕ))
      family = map member (numbers_below (length nodes))

      at : (k : ℕ) → k < length nodes → system_at family k ≡ member k
      at k l = get_or-map member (numbers_below (length nodes)) k 0 [] (subst (λ n. k < n) (sym (length-numbers_below (length nodes))) l) ∙ ap member (get_or-numbers_below (length nodes) k 0 l)

      member-is : (k : ℕ) → k < length nodes → IsPlaneSystem (skeleton_graph nodes k) (member k)
      member-is k l = ((picked k).1 l).0

      systems : AreSkeletonSystems nodes family
      systems = record { each = length-map (numbers_below (length nodes)) member ∙ length-numbers_below (length nodes); systems = λ k l. subst (IsRotationSystem (skeleton_graph nodes k)) (sym (at k l)) (member-is k l).system }

      w : (r : List (List ℕ)) × IsRotationSystem g r × FollowsFamily nodes family r
      w = family-followed g nodes family b systems

      chosen : (k : ℕ) → k < length nodes → choice nodes w.0 k ≡ keys k
      chosen k l = ap (choice_of_kind (node_at nodes k).kind) (same-round g nodes b w.0 family k (least_vertex nodes k) l w.2 (least-has g nodes b k l) ∙ ap (λ z. skeleton_round g nodes t k l z (least_vertex nodes k)) (at k l)) ∙ ((picked k).1 l).1 l

pub choices-tell : ChoicesTell
choices-tell g nodes r q b p s same = tell g nodes b r q p s same

pub choice-possible : ChoiceIsPossible
choice-possible g nodes r b p k l = possible g nodes b r k p l

pub selection-exists : SelectionExists
selection-exists g nodes keys b h = selection g nodes b keys h
