-- Rotation systems of the skeletons, told: a polygon has one, as has a block of one edge or two; a plane one of a bond is told
-- by its order at the lesser pole.
use Rattle.std.proofs.Common.{◌≡◌, ℕ, ◌/◌, ◌<◌, ◌≤◌, ◌⊎◌, true, ◌==◌, List, [], ◌∷◌, length, reverse, get_or, inl, inr, refl, sym, ap, ap₂, ◌∙◌, subst, arith, eqb-true}
use Rattle.std.proofs.lemmas.Bool.{cases_Bool, cases_eq, cases_lt, or_cases, true≢false}
use Rattle.std.proofs.lemmas.List.{length-map}
use Rattle.permutations.specs.Members.{is_member, is_distinct, place_of}
use Rattle.permutations.specs.Cyclic.{IsTurn, successor, from_least}
use Rattle.permutations.proofs.Members.{member-head, member-tail, member-cases, distinct-head, no_member-head}
use Rattle.permutations.proofs.Successor.{successor-member, successor-absent}
use Rattle.permutations.proofs.Turned.{IsTurn-refl}
use Rattle.permutations.proofs.CyclicSame.{IsTurn-from_successor}
use Rattle.permutations.proofs.Arrangements.{permutation-member, member-at, member-from_contains, contains-from_member}
use Rattle.multigraph.specs.Graph.{Multigraph, edge_count, numbers_below, incident_edges}
use Rattle.multigraph.proofs.Below.{length-numbers_below}
use Rattle.rotations.specs.Rotation.{order_at, IsRotationSystem}
use Rattle.rotations.proofs.Membership.{member-edge, member-end}
use Rattle.faces.specs.Euler.{dart_from, IsPlane, IsPlaneSystem}
use Rattle.faces.proofs.DartLemmas.{order-distinct, member-incident, dart_from-edge, dart_from-tail}
use Rattle.pair_split.specs.Skeleton.{IsPolygon, HasPoles, IsSmall, IsOfKind}
use Rattle.pair_split.specs.Split.{skeleton, items_of, piece_ends}
use Rattle.pair_split.specs.Tutte.{Node, components, node_at, node_item, piece_of}
use Rattle.pair_split.specs.declared.components.Kind.{Kind}
use Rattle.pair_split.specs.declared.components.Kind.TheVariants.{S, P, B}
use Rattle.pair_split.proofs.GraphFamily.{numbers-distinct, below-contains, contains-below}
use Rattle.pair_split.proofs.NodeParts.{node-pieces, node-kind}
use Rattle.skeletons.specs.Items.{IsBlockTree}
use Rattle.skeletons.specs.Families.{skeleton_graph}
use Rattle.skeletons.specs.Moves.{IsNodeOfKind}
use Rattle.skeletons.proofs.NodeItems.{comp-in, vertex-end}
use Rattle.skeletons.proofs.Systems.{same-turns}
use Rattle.skeleton_runs.proofs.Sturdy.{polygon-two}
use Rattle.skeleton_runs.proofs.SkeletonGraph.{place-at, place-of_at, distinct-fewer, graph-edges}
use Rattle.skeleton_runs.proofs.SkeletonGraph.{edge-item as graph-item}
use Rattle.skeleton_planes.proofs.RunTests.{end_of}
use Rattle.skeleton_planes.specs.Laws.{PolygonHasOneSystem, BondIsPlaneWhereReversed, SmallHasOneSystem}
use Rattle.skeleton_planes.proofs.SkeletonDarts.{end-vertex, tail-place, own-item, round-item}
use Rattle.skeleton_planes.proofs.PolygonSkeleton.{pair-in, pair-end, next-other, round-end, polygon-system_plane}
use Rattle.skeleton_planes.proofs.BondSkeleton.{some-item, item-ends, differ, lesser-in, greater-in, reversed-plane, plane-reversed, bond-system_plane}

-- two lists of at most two members, the same ones, are one cyclic order
pub short-turn : (l k : List ℕ) → length l ≤ 2 → length k ≤ 2 → is_distinct l ≡ true → is_distinct k ≡ true → ((x : ℕ) → is_member x l ≡ is_member x k) → IsTurn l k
short-turn [] [] n m d e h = IsTurn-refl []
short-turn [] (y ∷ ys) n m d e h = absurd (true≢false (sym (h y ∙ member-head y ys)))
short-turn (x ∷ xs) [] n m d e h = absurd (true≢false (sym (sym (h x) ∙ member-head x xs)))
short-turn (x ∷ xs) (y ∷ ys) n m d e h = at xs ys n m d e h
  where
    none : (z : ℕ) → is_member z [] ≡ true → ⊥
    none z i = true≢false (sym i)

    same : (u w : ℕ) → is_member u (w ∷ []) ≡ true → w ≡ u
    same u w i = elim (member-cases u w [] i) [ inl q ↦ q | inr q ↦ absurd (none u q) ]

    at : (xs ys : List ℕ) → length (x ∷ xs) ≤ 2 → length (y ∷ ys) ≤ 2 → is_distinct (x ∷ xs) ≡ true → is_distinct (y ∷ ys) ≡ true → ((z : ℕ) → is_member z (x ∷ xs) ≡ is_member z (y ∷ ys)) → IsTurn (x ∷ xs) (y ∷ ys)
    at [] [] n m d e h = subst (λ z. IsTurn (x ∷ []) (z ∷ [])) (same y x (h y ∙ member-head y [])) (IsTurn-refl (x ∷ []))
    at [] (w ∷ ws) n m d e h = absurd (no_member-head y w ws (distinct-head y (w ∷ ws) e) (sym (same w x (h w ∙ member-tail w y (w ∷ ws) (member-head w ws))) ∙ same y x (h y ∙ member-head y (w ∷ ws))))
    at (u ∷ us) [] n m d e h = absurd (no_member-head x u us (distinct-head x (u ∷ us) d) (sym (same u y (sym (h u) ∙ member-tail u x (u ∷ us) (member-head u us))) ∙ same x y (sym (h x) ∙ member-head x (u ∷ us))))
    at (u ∷ []) (w ∷ []) n m d e h = elim (member-cases y x (u ∷ []) (h y ∙ member-head y (w ∷ []))) [
      | inl q ↦ elim (member-cases w x (u ∷ []) (h w ∙ member-tail w y (w ∷ []) (member-head w []))) [
        | inl o ↦ absurd (no_member-head y w [] (distinct-head y (w ∷ []) e) (sym o ∙ q))
        | inr o ↦ subst (λ (z : List ℕ). IsTurn (x ∷ u ∷ []) z) (ap₂ (λ a c. a ∷ c ∷ []) q (same w u o)) (IsTurn-refl (x ∷ u ∷ []))
      ]
      | inr q ↦ elim (member-cases w x (u ∷ []) (h w ∙ member-tail w y (w ∷ []) (member-head w []))) [
        | inl o ↦ record { front = x ∷ []; back = u ∷ []; before = refl; after = ap₂ (λ a c. a ∷ c ∷ []) (sym (same y u q)) (sym o) }
        | inr o ↦ absurd (no_member-head y w [] (distinct-head y (w ∷ []) e) (sym (same w u o) ∙ same y u q))
      ]
    ]
    at (u ∷ v ∷ us) ys n m d e h = absurd (omega (arith, n))
    at xs (w ∷ v ∷ ws) n m d e h = absurd (omega (arith, m))

-- a node of the tree of a block, and two rotation systems of its skeleton
module _ (g : Multigraph) (nodes : List Node) (b : IsBlockTree g nodes) (k : ℕ) (l : k < length nodes) (s t : List (List ℕ)) (first : IsRotationSystem (skeleton_graph nodes k) s) (second : IsRotationSystem (skeleton_graph nodes k) t) where
  -- the skeleton
  abbrev graph : Multigraph
  graph = skeleton_graph nodes k

  -- they have the same members at each vertex
  same-round : (p : ℕ) → p < graph.vertex_count → (x : ℕ) → is_member x (order_at s p) ≡ is_member x (order_at t p)
  same-round p n x = permutation-member (incident_edges graph p) (order_at s p) x (first.orders p n).arranged ∙ sym (permutation-member (incident_edges graph p) (order_at t p) x (second.orders p n).arranged)

  -- a member stands at a dart there
  round-dart : (p x : ℕ) → p < graph.vertex_count → is_member x (order_at s p) ≡ true → (z : ℕ) × (z / 2 ≡ x) × (z / 2 < length (node_at nodes k).items) × (place_of (node_at nodes k).vertices (end_of nodes k z) ≡ p)
  round-dart p x n m =
      let i : is_member x (incident_edges graph p) ≡ true = member-incident graph s p x first n m in
      let h : dart_from graph p x / 2 ≡ x = dart_from-edge graph p x in
      let c : dart_from graph p x / 2 < length (node_at nodes k).items = subst (λ n. n < length (node_at nodes k).items) (sym h) (graph-item g nodes b k l x (member-edge graph p x i)) in
      (dart_from graph p x, h, c, sym (tail-place g nodes b k l (dart_from graph p x) c) ∙ dart_from-tail graph p x (member-end graph p x i))

  -- in a polygon what follows is the other edge there
  module _ (polygon : IsPolygon (skeleton (components nodes) k)) where
    -- so the successors are the same
    same-next : (p x : ℕ) → p < graph.vertex_count → is_member x (order_at s p) ≡ true → successor (order_at s p) x ≡ successor (order_at t p) x
    same-next p x n m = let w = round-dart p x n m in
        subst (λ q. successor (order_at s q) x ≡ successor (order_at t q) x) w.3 (subst (λ y. successor (order_at s (place_of (node_at nodes k).vertices (end_of nodes k w.0))) y ≡ successor (order_at t (place_of (node_at nodes k).vertices (end_of nodes k w.0))) y) w.1 (at w.0 w.2))
      where
        at : (z : ℕ) → z / 2 < length (node_at nodes k).items → successor (order_at s (place_of (node_at nodes k).vertices (end_of nodes k z))) (z / 2) ≡ successor (order_at t (place_of (node_at nodes k).vertices (end_of nodes k z))) (z / 2)
        at z i =
            let p : ℕ = place_of (node_at nodes k).vertices (end_of nodes k z) in
            let a : is_member (successor (order_at s p) (z / 2)) (order_at s p) ≡ true = successor-member (order_at s p) (z / 2) (own-item g nodes b k l s first z i) in
            let c : is_member (successor (order_at t p) (z / 2)) (order_at t p) ≡ true = successor-member (order_at t p) (z / 2) (own-item g nodes b k l t second z i) in
            elim (polygon-two (skeleton (components nodes) k) (end_of nodes k z) (z / 2) (successor (order_at s p) (z / 2)) (successor (order_at t p) (z / 2)) polygon
            (pair-in g nodes b k l (z / 2) i)
            (pair-in g nodes b k l (successor (order_at s p) (z / 2)) (round-item g nodes b k l s first z (successor (order_at s p) (z / 2)) i a))
            (pair-in g nodes b k l (successor (order_at t p) (z / 2)) (round-item g nodes b k l t second z (successor (order_at t p) (z / 2)) i c))
            (λ e. next-other g nodes b k l s first polygon z i (sym e))
            (pair-end g nodes b k l z i)
            (round-end g nodes b k l s first polygon z i (successor (order_at s p) (z / 2)) a)
            (round-end g nodes b k l t second polygon z i (successor (order_at t p) (z / 2)) c)) [
              | inl e ↦ absurd (next-other g nodes b k l t second polygon z i e)
              | inr e ↦ sym e
            ]

    -- the two are one
    pub polygon-one : s ≡ t
    polygon-one = same-turns graph s t first second (λ p n. turn p n (order_at s p) refl)
      where
        turn : (p : ℕ) → p < graph.vertex_count → (o : List ℕ) → order_at s p ≡ o → IsTurn (order_at s p) (order_at t p)
        turn p n [] e = none (order_at t p) refl
          where
            none : (q : List ℕ) → order_at t p ≡ q → IsTurn (order_at s p) (order_at t p)
            none [] f = subst (λ (q : List ℕ). IsTurn (order_at s p) q) (e ∙ sym f) (IsTurn-refl (order_at s p))
            none (y ∷ ys) f = absurd (true≢false (sym (ap (is_member y) (sym e) ∙ same-round p n y ∙ ap (is_member y) f ∙ member-head y ys)))
        turn p n (x ∷ xs) e = let m : is_member x (order_at s p) ≡ true = ap (is_member x) e ∙ member-head x xs in
            IsTurn-from_successor (order_at s p) (order_at t p) x (order-distinct graph s p first n) (order-distinct graph t p second n) m (sym (same-round p n x) ∙ m)
            (λ z. elim (cases_Bool (is_member z (order_at s p))) [
              | inl h ↦ same-next p z n h
              | inr h ↦ successor-absent (order_at s p) z h ∙ sym (successor-absent (order_at t p) z (sym (same-round p n z) ∙ h))
            ])

  -- with one edge or two there is one
  pub small-one : length (node_at nodes k).items ≤ 2 → s ≡ t
  small-one few = same-turns graph s t first second (λ p n. short-turn (order_at s p) (order_at t p) (short s first p n) (short t second p n) (order-distinct graph s p first n) (order-distinct graph t p second n) (same-round p n))
    where
      short : (r : List (List ℕ)) → IsRotationSystem graph r → (p : ℕ) → p < graph.vertex_count → length (order_at r p) ≤ 2
      short r system p n = let d = distinct-fewer (edge_count graph) (order_at r p) (numbers_below (edge_count graph)) (order-distinct graph r p system n) (numbers-distinct (edge_count graph))
          (λ x m. member-edge-below x m) (λ x m. member-from_contains (numbers_below (edge_count graph)) x (below-contains (edge_count graph) x (member-edge graph p x (member-incident graph r p x system n m)))) in
          omega (arith, d, length-numbers_below (edge_count graph), graph-edges g nodes b k l, few)
        where
          member-edge-below : (x : ℕ) → is_member x (numbers_below (edge_count graph)) ≡ true → x < edge_count graph
          member-edge-below x m = contains-below (edge_count graph) x (contains-from_member (numbers_below (edge_count graph)) x m)

-- a node whose items all join two vertices: in its skeleton these have the places 0 and 1
module _ (g : Multigraph) (nodes : List Node) (b : IsBlockTree g nodes) (k : ℕ) (l : k < length nodes) (poles : HasPoles (skeleton (components nodes) k)) where
  -- its vertices
  abbrev vertices : List ℕ
  vertices = (node_at nodes k).vertices

  -- the two
  abbrev lesser : ℕ
  lesser = (node_item nodes k 0).a

  -- the other
  abbrev greater : ℕ
  greater = (node_item nodes k 0).b

  -- there are no other places
  pub place-cases : (p : ℕ) → p < length (node_at nodes k).vertices → (p ≡ place_of (node_at nodes k).vertices (node_item nodes k 0).a) ⊎ (p ≡ place_of (node_at nodes k).vertices (node_item nodes k 0).b)
  place-cases p n =
      let w = vertex-end g nodes b.tree k (get_or vertices p 0) (member-at vertices p 0 n) in
      let e = item-ends g nodes b k l poles w.0 w.1 in
      let back : place_of vertices (get_or vertices p 0) ≡ p = place-of_at vertices (b.tree.in_order.vertices_rise k l) p 0 n in
      elim (or_cases ((node_item nodes k w.0).a == get_or vertices p 0) ((node_item nodes k w.0).b == get_or vertices p 0) w.2) [
        | inl i ↦ inl (sym back ∙ ap (place_of vertices) (sym (eqb-true (node_item nodes k w.0).a (get_or vertices p 0) i) ∙ e.0))
        | inr i ↦ inr (sym back ∙ ap (place_of vertices) (sym (eqb-true (node_item nodes k w.0).b (get_or vertices p 0) i) ∙ e.1))
      ]

  -- the lesser vertex is the first
  places-order : place_of vertices lesser < place_of vertices greater
  places-order = elim (cases_lt (place_of vertices lesser) (place_of vertices greater)) [
    | inl i ↦ i
    | inr i ↦ absurd (elim (cases_eq (place_of vertices lesser) (place_of vertices greater)) [
      | inl q ↦ wrong (sym at_lesser ∙ ap (λ n. get_or vertices n 0) q ∙ at_greater)
      | inr q ↦ let r : get_or vertices (place_of vertices greater) 0 < get_or vertices (place_of vertices lesser) 0 = b.tree.in_order.vertices_rise k l (place_of vertices greater) (place_of vertices lesser) (omega (arith, i, q)) (lesser-in g nodes b k l poles) in
          omega (arith, r, at_lesser, at_greater, differ g nodes b k l poles)
    ])
  ]
    where
      at_lesser : get_or vertices (place_of vertices lesser) 0 ≡ lesser
      at_lesser = place-at vertices lesser 0 (end-vertex g nodes b k l 0 some)
        where
          some : 0 / 2 < length (node_at nodes k).items
          some = some-item g nodes b k l poles

      at_greater : get_or vertices (place_of vertices greater) 0 ≡ greater
      at_greater = place-at vertices greater 0 (end-vertex g nodes b k l 1 some)
        where
          some : 1 / 2 < length (node_at nodes k).items
          some = some-item g nodes b k l poles

      wrong : lesser ≡ greater → ⊥
      wrong q = omega (arith, q, differ g nodes b k l poles)

  -- it has place 0
  pub lesser-place : place_of (node_at nodes k).vertices (node_item nodes k 0).a ≡ 0
  lesser-place = elim (place-cases 0 (omega (arith, places-order, greater-in g nodes b k l poles))) [
    | inl e ↦ sym e
    | inr e ↦ absurd (omega (arith, e, places-order))
  ]

  -- and the other place 1
  pub greater-place : place_of (node_at nodes k).vertices (node_item nodes k 0).b ≡ 1
  greater-place = elim (place-cases 1 (omega (arith, places-order, greater-in g nodes b k l poles))) [
    | inl e ↦ absurd (omega (arith, e, lesser-place))
    | inr e ↦ sym e
  ]

  -- a plane rotation system is told by its order at the lesser pole
  pub bond-one : (s t : List (List ℕ)) → IsRotationSystem (skeleton_graph nodes k) s → IsRotationSystem (skeleton_graph nodes k) t → IsPlane (skeleton_graph nodes k) s → IsPlane (skeleton_graph nodes k) t → order_at s 0 ≡ order_at t 0 → s ≡ t
  bond-one s t a c p q e = same-turns (skeleton_graph nodes k) s t a c (λ x n. elim (place-cases x n) [
    | inl i ↦ subst (λ y. IsTurn (order_at s y) (order_at t y)) (sym (i ∙ lesser-place)) (subst (λ (o : List ℕ). IsTurn (order_at s 0) o) e (IsTurn-refl (order_at s 0)))
    | inr i ↦ subst (λ y. IsTurn (order_at s y) (order_at t y)) (sym i) (subst (λ (o : List ℕ). IsTurn (order_at s (place_of vertices greater)) o)
        (plane-reversed g nodes b k l poles s a p ∙ ap (λ o. from_least (reverse o)) (ap (order_at s) lesser-place ∙ e ∙ sym (ap (order_at t) lesser-place)) ∙ sym (plane-reversed g nodes b k l poles t c q)) (IsTurn-refl (order_at s (place_of vertices greater))))
  ])

-- a node's skeleton is of the node's kind
pub kind-of : (g : Multigraph) (nodes : List Node) → IsBlockTree g nodes → (k : ℕ) (kind : Kind) → IsNodeOfKind nodes k kind → IsOfKind kind (skeleton (components nodes) k)
kind-of g nodes b k kind n = subst (λ (kind : Kind). IsOfKind kind (skeleton (components nodes) k)) (node-kind nodes k ∙ n.1) (b.tree.split.of_kind.kinds k (comp-in g nodes b.tree k n.0)).of_kind

-- a polygon has one rotation system, and it is plane
pub polygon-law : PolygonHasOneSystem
polygon-law g nodes b k n s first = (polygon-system_plane g nodes b k n.0 s first (kind-of g nodes b k S n), λ t second. polygon-one g nodes b k n.0 s t first second (kind-of g nodes b k S n))

-- a bond's is plane where the order at the one pole is the reverse of that at the other
pub bond-law : BondIsPlaneWhereReversed
bond-law g nodes b k n s system = (
  λ p. ap (order_at s) (sym (greater-place g nodes b k n.0 poles)) ∙ plane-reversed g nodes b k n.0 poles s system p ∙ ap (λ i. from_least (reverse (order_at s i))) (lesser-place g nodes b k n.0 poles),
  λ e. reversed-plane g nodes b k n.0 poles s system (ap (order_at s) (greater-place g nodes b k n.0 poles) ∙ e ∙ ap (λ i. from_least (reverse (order_at s i))) (sym (lesser-place g nodes b k n.0 poles))),
)
  where
    poles : HasPoles (skeleton (components nodes) k)
    poles = (kind-of g nodes b k P n).two

-- the one edge or two of a block as small have one, and it is plane
pub small-law : SmallHasOneSystem
small-law g nodes b k n s first = (
  subst (IsPlane (skeleton_graph nodes k)) (small-one g nodes b k n.0 plane.0 s plane.1.system first few) plane.1.plane,
  λ t second. small-one g nodes b k n.0 s t first second few,
)
  where
    small : IsSmall (skeleton (components nodes) k)
    small = kind-of g nodes b k B n

    few : length (node_at nodes k).items ≤ 2
    few = let i = pieces-number k in omega (arith, small.few, length-map (items_of (components nodes) k) piece_ends, i)
      where
        pieces-number : (k : ℕ) → length (items_of (components nodes) k) ≡ length (node_at nodes k).items
        pieces-number k = ap length (node-pieces nodes k) ∙ length-map (node_at nodes k).items piece_of

    plane : (s : List (List ℕ)) × IsPlaneSystem (skeleton_graph nodes k) s
    plane = bond-system_plane g nodes b k n.0 small.two
