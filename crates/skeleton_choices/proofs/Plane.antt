-- Moves keep plane, and choices tell a plane rotation system: by the rotation systems of the skeletons.
use Rattle.std.proofs.Common.{◌≡◌, ◌≢◌, ℕ, ◌<◌, ◌≤◌, ◌⊎◌, ◌==◌, inl, inr, true, List, [], ◌∷◌, length, reverse, refl, sym, ap, ◌∙◌, subst, arith, IsPermutation}
use Rattle.std.proofs.lemmas.Bool.{cases_eq, both_ways, true≢false, or_left, or_right, eq-eqb}
use Rattle.std.proofs.lemmas.List.Sorted.{length_permutation}
use Rattle.permutations.specs.Cyclic.{first_or, least_or, IsTurn, from_least}
use Rattle.permutations.specs.Members.{is_member, is_distinct}
use Rattle.permutations.proofs.Arrangements.{permutation-member, permutation-distinct}
use Rattle.permutations.proofs.Members.{member-head, member-tail, member-cases, distinct-head}
use Rattle.permutations.proofs.Turned.{IsTurn-refl, IsTurn-swap}
use Rattle.permutations.proofs.NormalForm.{mirror-twice, from_least-same, from_least-first_or, least_or-le}
use Rattle.multigraph.specs.Graph.{Multigraph}
use Rattle.rotations.specs.Rotation.{order_at, IsRotationSystem}
use Rattle.faces.specs.Euler.{IsPlane, IsPlaneSystem}
use Rattle.rotations.specs.Runs.{mirror_image}
use Rattle.faces.proofs.MapMirror.{mirror-system, mirror-image-plane}
use Rattle.pair_split.specs.Skeleton.{HasPoles, IsOfKind}
use Rattle.pair_split.specs.Split.{skeleton}
use Rattle.pair_split.specs.Tutte.{Node, components, node_at, node_item, group, IsTutte}
use Rattle.pair_split.specs.declared.components.Kind.{Kind}
use Rattle.pair_split.specs.declared.components.Kind.TheVariants.{P, R}
use Rattle.pair_split.proofs.NodeParts.{node-kind}
use Rattle.choice_lists.proofs.Choices.{mirror-differs, mirror-is}
use Rattle.skeletons.specs.Items.{has_vertex, least_vertex, greatest_vertex, IsBlockTree}
use Rattle.skeletons.specs.Round.{keys_round, IsContiguous}
use Rattle.skeletons.specs.Choices.{choice_of_kind, choice}
use Rattle.skeletons.specs.Moves.{Move, flip, permute, moved_node, IsNodeOfKind, FlipLeads, PermuteLeads, MoveLeads}
use Rattle.skeletons.specs.Families.{skeleton_graph, system_at, AreSkeletonSystems, FollowsFamily}
use Rattle.skeletons.specs.Laws.{MoveKeepsPlane}
use Rattle.skeletons.proofs.NodeItems.{comp-in, edge-item, item-vertex}
use Rattle.skeletons.proofs.KeyRuns.{met-runs, met-order}
use Rattle.skeletons.proofs.Vertices.{least-has, greatest-has, bond-vertex}
use Rattle.skeletons.proofs.Moved.{mirror-normal, move-moved, moved-round, move-contiguous, flip-round}
use Rattle.skeletons.proofs.Places.{contiguous-follows}
use Rattle.skeleton_runs.proofs.Contiguous.{plane-contiguous}
use Rattle.skeleton_runs.proofs.SkeletonGraph.{skeleton-graph}
use Rattle.skeleton_planes.proofs.BondSkeleton.{reversed-plane, plane-reversed}
use Rattle.skeleton_planes.proofs.Followed.{follows-plane, follows-plane_back}
use Rattle.skeleton_choices.proofs.Rounds.{skeleton_round, round-distinct, round-normal, mirror-keys, reversed-round, round-reversed, same-rounds}

-- three keys or more, from the least on, aren't their own mirror image
pub three-differ : (keys : List ℕ) → is_distinct keys ≡ true → from_least keys ≡ keys → 3 ≤ length keys → from_least (reverse keys) ≢ keys
three-differ [] d n l e = omega (arith, l)
three-differ (x ∷ keys) d n l e = mirror-differs (x ∷ keys) d l (sym (mirror-is x keys d least) ∙ e)
  where
    least : (z : ℕ) → is_member z keys ≡ true → x ≤ z
    least z m =
        let first : x ≡ least_or x (x ∷ keys) = sym (ap (first_or 0) n) ∙ from_least-first_or (x ∷ keys) x (member-head x keys) in
        omega (arith, first, least_or-le x z (x ∷ keys) (member-tail z x keys m))

-- arrangements of two keys at most, each from the least on, are equal
pub few-equal : (l m : List ℕ) → is_distinct l ≡ true → length l ≤ 2 → IsPermutation l m → from_least l ≡ l → from_least m ≡ m → l ≡ m
few-equal l m d n p a c = sym a ∙ from_least-same l m (turn l m d n p) d ∙ c
  where
    pick : (x y z : ℕ) → is_member z (x ∷ y ∷ []) ≡ true → (x ≡ z) ⊎ (y ≡ z)
    pick x y z h = elim (member-cases z x (y ∷ []) h) [
      | inl e ↦ inl e
      | inr i ↦ elim (member-cases z y [] i) [ inl e ↦ inr e | inr o ↦ absurd (true≢false (sym o)) ]
    ]

    turn : (l m : List ℕ) → is_distinct l ≡ true → length l ≤ 2 → IsPermutation l m → IsTurn l m
    turn [] [] d n p = IsTurn-refl []
    turn [] (y ∷ m) d n p = absurd (omega (arith, length_permutation [] (y ∷ m) p))
    turn (x ∷ []) [] d n p = absurd (omega (arith, length_permutation (x ∷ []) [] p))
    turn (x ∷ []) (y ∷ []) d n p = elim (member-cases y x [] (sym (permutation-member (x ∷ []) (y ∷ []) y p) ∙ member-head y [])) [
      | inl e ↦ subst (λ z. IsTurn (x ∷ []) (z ∷ [])) e (IsTurn-refl (x ∷ []))
      | inr o ↦ absurd (true≢false (sym o))
    ]
    turn (x ∷ []) (y ∷ z ∷ m) d n p = absurd (omega (arith, length_permutation (x ∷ []) (y ∷ z ∷ m) p))
    turn (x ∷ y ∷ []) [] d n p = absurd (omega (arith, length_permutation (x ∷ y ∷ []) [] p))
    turn (x ∷ y ∷ []) (z ∷ []) d n p = absurd (omega (arith, length_permutation (x ∷ y ∷ []) (z ∷ []) p))
    turn (x ∷ y ∷ []) (z ∷ w ∷ []) d n p = two (pick x y z (sym (permutation-member (x ∷ y ∷ []) (z ∷ w ∷ []) z p) ∙ member-head z (w ∷ []))) (pick x y w (sym (permutation-member (x ∷ y ∷ []) (z ∷ w ∷ []) w p) ∙ member-tail w z (w ∷ []) (member-head w [])))
      where
        apart : z ≢ w
        apart e = both_ways (is_member z (w ∷ [])) (distinct-head z (w ∷ []) (permutation-distinct (x ∷ y ∷ []) (z ∷ w ∷ []) p d)) (subst (λ u. is_member u (w ∷ []) ≡ true) (sym e) (member-head w []))

        two : (x ≡ z) ⊎ (y ≡ z) → (x ≡ w) ⊎ (y ≡ w) → IsTurn (x ∷ y ∷ []) (z ∷ w ∷ [])
        two (inl e) (inl f) = absurd (apart (sym e ∙ f))
        two (inl e) (inr f) = subst (λ u. IsTurn (x ∷ y ∷ []) (u ∷ w ∷ [])) e (subst (λ u. IsTurn (x ∷ y ∷ []) (x ∷ u ∷ [])) f (IsTurn-refl (x ∷ y ∷ [])))
        two (inr e) (inl f) = subst (λ u. IsTurn (x ∷ y ∷ []) (u ∷ w ∷ [])) e (subst (λ u. IsTurn (x ∷ y ∷ []) (y ∷ u ∷ [])) f (IsTurn-swap (x ∷ []) (y ∷ [])))
        two (inr e) (inr f) = absurd (apart (sym e ∙ f))
    turn (x ∷ y ∷ []) (z ∷ w ∷ u ∷ m) d n p = absurd (omega (arith, length_permutation (x ∷ y ∷ []) (z ∷ w ∷ u ∷ m) p))
    turn (x ∷ y ∷ z ∷ l) m d n p = absurd (omega (arith, n))

module _ (g : Multigraph) (nodes : List Node) (b : IsBlockTree g nodes) where
  abbrev t : IsTutte g nodes
  t = b.tree

  -- the plane rotation systems of the skeletons that a plane rotation system of the block follows
  pub record Parts (r : List (List ℕ)) : Type 0 where
    pub family : List (List (List ℕ))
    pub systems : AreSkeletonSystems nodes family
    pub follows : FollowsFamily nodes family r
    pub plane : (k : ℕ) → k < length nodes → IsPlane (skeleton_graph nodes k) (system_at family k)

  pub parts : (r : List (List ℕ)) → IsPlaneSystem g r → Parts r
  parts r p =
      let f = contiguous-follows g nodes r b p.system (plane-contiguous g nodes r b p) in
      record { family = f.0; systems = f.1; follows = f.2; plane = follows-plane_back g nodes b f.0 f.1 r p.system f.2 p.plane }

  -- the keys round a vertex, in the block and in the skeleton
  pub same-round : (r : List (List ℕ)) (family : List (List (List ℕ))) (k v : ℕ) (l : k < length nodes) → FollowsFamily nodes family r → has_vertex nodes k v ≡ true → keys_round nodes r k v ≡ skeleton_round g nodes t k l (system_at family k) v
  same-round r family k v l f h = met-order (group nodes k) (order_at r v) _ (f k v h)

  -- what is asked of a skeleton by its kind
  pub of-kind : (k : ℕ) (kind : Kind) → IsNodeOfKind nodes k kind → IsOfKind kind (skeleton (components nodes) k)
  of-kind k kind is = subst (λ (z : Kind). IsOfKind z (skeleton (components nodes) k)) (node-kind nodes k ∙ is.1) ((t.split.of_kind.kinds k (comp-in g nodes t k is.0)).of_kind)

  -- two vertices of a bond
  module _ (k : ℕ) (is : IsNodeOfKind nodes k P) where
    poles : HasPoles (skeleton (components nodes) k)
    poles = (of-kind k P is).two

    abbrev u : ℕ
    u = (node_item nodes k 0).a

    abbrev w : ℕ
    w = (node_item nodes k 0).b

    some : 0 < length (node_at nodes k).items
    some = let i = edge-item g nodes t k 0 is.0 b.block.has_edge in omega (arith, i.1)

    pub u-has : has_vertex nodes k u ≡ true
    u-has = item-vertex g nodes t k u 0 is.0 some (or_left (u == u) (w == u) (eq-eqb u u refl))

    pub w-has : has_vertex nodes k w ≡ true
    w-has = item-vertex g nodes t k w 0 is.0 some (or_right (u == w) (w == w) (eq-eqb w w refl))

    -- these are the least and the greatest vertex, in one order or the other
    pub which : ((u ≡ least_vertex nodes k) × (w ≡ greatest_vertex nodes k)) ⊎ ((u ≡ greatest_vertex nodes k) × (w ≡ least_vertex nodes k))
    which = elim (bond-vertex g nodes b k is u u-has) [
      | inl e ↦ elim (bond-vertex g nodes b k is w w-has) [
        | inl f ↦ absurd (omega (arith, t.in_order.ends_rise k 0 some, e, f))
        | inr f ↦ inl (e, f)
      ]
      | inr e ↦ elim (bond-vertex g nodes b k is w w-has) [
        | inl f ↦ inr (e, f)
        | inr f ↦ absurd (omega (arith, t.in_order.ends_rise k 0 some, e, f))
      ]
    ]

    -- a bond is plane where the keys at its greatest vertex are the reverse of those at its least
    pub bond-is_plane : (s : List (List ℕ)) → IsRotationSystem (skeleton_graph nodes k) s → skeleton_round g nodes t k is.0 s (greatest_vertex nodes k) ≡ from_least (reverse (skeleton_round g nodes t k is.0 s (least_vertex nodes k))) → IsPlane (skeleton_graph nodes k) s
    bond-is_plane s a e = reversed-plane g nodes b k is.0 poles s a (round-reversed g nodes t k is.0 s a u w u-has w-has (elim which [
      | inl q ↦ subst (λ z. round z ≡ from_least (reverse (round u))) (sym q.1) (subst (λ z. round (greatest_vertex nodes k) ≡ from_least (reverse (round z))) (sym q.0) e)
      | inr q ↦ subst (λ z. round z ≡ from_least (reverse (round u))) (sym q.1) (subst (λ z. round (least_vertex nodes k) ≡ from_least (reverse (round z))) (sym q.0)
          (sym (ap (λ (z : List ℕ). from_least (reverse z)) e ∙ mirror-twice (round (least_vertex nodes k)) (round-distinct g nodes t k is.0 s a (least_vertex nodes k) (least-has g nodes b k is.0))
          ∙ round-normal g nodes t k is.0 s a (least_vertex nodes k) (least-has g nodes b k is.0))))
    ]))
      where
        round : ℕ → List ℕ
        round v = skeleton_round g nodes t k is.0 s v

    -- and only there
    pub plane-bond : (s : List (List ℕ)) → IsRotationSystem (skeleton_graph nodes k) s → IsPlane (skeleton_graph nodes k) s → skeleton_round g nodes t k is.0 s (greatest_vertex nodes k) ≡ from_least (reverse (skeleton_round g nodes t k is.0 s (least_vertex nodes k)))
    plane-bond s a p = elim which [
      | inl q ↦ subst (λ z. round z ≡ from_least (reverse (round (least_vertex nodes k)))) q.1 (subst (λ z. round w ≡ from_least (reverse (round z))) q.0 there)
      | inr q ↦
          let e : round (least_vertex nodes k) ≡ from_least (reverse (round (greatest_vertex nodes k))) = subst (λ z. round z ≡ from_least (reverse (round (greatest_vertex nodes k)))) q.1 (subst (λ z. round w ≡ from_least (reverse (round z))) q.0 there) in
          sym (ap (λ (z : List ℕ). from_least (reverse z)) e ∙ mirror-twice (round (greatest_vertex nodes k)) (round-distinct g nodes t k is.0 s a (greatest_vertex nodes k) (greatest-has g nodes b k is.0))
          ∙ round-normal g nodes t k is.0 s a (greatest_vertex nodes k) (greatest-has g nodes b k is.0))
    ]
      where
        round : ℕ → List ℕ
        round v = skeleton_round g nodes t k is.0 s v

        there : round w ≡ from_least (reverse (round u))
        there = reversed-round g nodes t k is.0 s a u w u-has (plane-reversed g nodes b k is.0 poles s a p)

  -- a choice of a node with one, as the keys round its least vertex
  pub choice-round : (r : List (List ℕ)) (k : ℕ) (kind : Kind) → (node_at nodes k).kind ≡ kind → choice nodes r k ≡ choice_of_kind kind (keys_round nodes r k (least_vertex nodes k))
  choice-round r k kind e = ap (λ (z : Kind). choice_of_kind z (keys_round nodes r k (least_vertex nodes k))) e

  -- a move keeps plane
  module _ (move : Move) (r q : List (List ℕ)) (p : IsPlaneSystem g r) (m : MoveLeads g nodes move r q) where
    runs : IsContiguous nodes r
    runs = plane-contiguous g nodes r b p

    system : IsRotationSystem g q
    system = (move-moved g nodes b move r q m).system

    before : Parts r
    before = parts r p

    after : (family : List (List (List ℕ))) × AreSkeletonSystems nodes family × FollowsFamily nodes family q
    after = contiguous-follows g nodes q b system (move-contiguous g nodes move r q b p.system runs m)

    old : (k v : ℕ) (l : k < length nodes) → has_vertex nodes k v ≡ true → keys_round nodes r k v ≡ skeleton_round g nodes t k l (system_at before.family k) v
    old k v l h = same-round r before.family k v l before.follows h

    new : (k v : ℕ) (l : k < length nodes) → has_vertex nodes k v ≡ true → keys_round nodes q k v ≡ skeleton_round g nodes t k l (system_at after.0 k) v
    new k v l h = same-round q after.0 k v l after.2 h

    others : (k : ℕ) → k < length nodes → k ≢ moved_node move → IsPlane (skeleton_graph nodes k) (system_at after.0 k)
    others k l n = subst (IsPlane (skeleton_graph nodes k)) (same-rounds g nodes t k l (system_at before.family k) (system_at after.0 k) (before.systems.systems k l) (after.1.systems k l)
        (λ v h. sym (old k v l h) ∙ sym (moved-round g nodes b (moved_node move) k v r q p.system runs (move-moved g nodes b move r q m) n h) ∙ new k v l h)) (before.plane k l)

    flipped : (k : ℕ) → IsNodeOfKind nodes k R × FlipLeads g nodes k r q → IsPlane (skeleton_graph nodes k) (system_at after.0 k)
    flipped k f =
        let l : k < length nodes = f.0.0 in
        let s : List (List ℕ) = system_at before.family k in
        subst (IsPlane (skeleton_graph nodes k)) (same-rounds g nodes t k l (mirror_image s) (system_at after.0 k) (mirror-system (skeleton_graph nodes k) s (before.systems.systems k l)) (after.1.systems k l)
        (λ v h. mirror-keys g nodes t k l s (before.systems.systems k l) v h ∙ ap (λ (z : List ℕ). from_least (reverse z)) (sym (old k v l h)) ∙ sym (flip-round g nodes b k v r q f.1 h) ∙ new k v l h))
        (mirror-image-plane (skeleton_graph nodes k) s (skeleton-graph g nodes b k l) (before.systems.systems k l) (before.plane k l))

    permuted : (k : ℕ) (keys : List ℕ) → IsNodeOfKind nodes k P × PermuteLeads g nodes k keys r q → IsPlane (skeleton_graph nodes k) (system_at after.0 k)
    permuted k keys f =
        let l : k < length nodes = f.0.0 in
        let a = f.1.lesser in
        let c = f.1.greater in
        let once : is_distinct keys ≡ true = subst (λ (z : List ℕ). is_distinct z ≡ true) a.order a.runs_after.once in
        let least : keys_round nodes q k (least_vertex nodes k) ≡ from_least keys = met-runs (group nodes k) (order_at q (least_vertex nodes k)) a.after a.runs_after ∙ ap from_least a.order in
        let greatest : keys_round nodes q k (greatest_vertex nodes k) ≡ from_least (reverse keys) = met-runs (group nodes k) (order_at q (greatest_vertex nodes k)) c.after c.runs_after ∙ ap from_least c.order in
        bond-is_plane k f.0 (system_at after.0 k) (after.1.systems k l)
        (sym (new k (greatest_vertex nodes k) l (greatest-has g nodes b k l)) ∙ greatest ∙ sym (mirror-normal keys once) ∙ ap (λ (z : List ℕ). from_least (reverse z)) (sym least ∙ new k (least_vertex nodes k) l (least-has g nodes b k l)))

  moved-plane : (move : Move) (r q : List (List ℕ)) (p : IsPlaneSystem g r) (m : MoveLeads g nodes move r q) → (k : ℕ) → k < length nodes → IsPlane (skeleton_graph nodes k) (system_at (after move r q p m).0 k)
  moved-plane (flip j) r q p m k l = elim (cases_eq k j) [
    | inl e ↦ subst (λ z. IsPlane (skeleton_graph nodes z) (system_at (after (flip j) r q p m).0 z)) (sym e) (flipped (flip j) r q p m j m)
    | inr n ↦ others (flip j) r q p m k l n
  ]
  moved-plane (permute j keys) r q p m k l = elim (cases_eq k j) [
    | inl e ↦ subst (λ z. IsPlane (skeleton_graph nodes z) (system_at (after (permute j keys) r q p m).0 z)) (sym e) (permuted (permute j keys) r q p m j keys m)
    | inr n ↦ others (permute j keys) r q p m k l n
  ]

  pub plane-kept : (move : Move) (r q : List (List ℕ)) → IsPlaneSystem g r → MoveLeads g nodes move r q → IsPlaneSystem g q
  plane-kept move r q p m =
      let a = after move r q p m in
      record { system = system move r q p m; plane = follows-plane g nodes b a.0 a.1 q (system move r q p m) a.2 (moved-plane move r q p m) }

pub move-plane : MoveKeepsPlane
move-plane g nodes move r q b p m = plane-kept g nodes b move r q p m
