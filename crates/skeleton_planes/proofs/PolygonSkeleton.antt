-- The skeletons of polygons: each rotation system of one is plane. And rotation systems made of others.
use Rattle.std.proofs.Common.{◌≡◌, ◌≢◌, ℕ, zero, suc, ◌*◌, ◌/◌, ◌<◌, ◌≤◌, ◌⊎◌, Bool, true, false, cond, List, [], ◌∷◌, length, map, filter, slice_index_or, inl, inr, refl, sym, ap, ap₂, ◌∙◌, subst, arith}
use Rattle.std.proofs.lemmas.Bool.{cases_Bool}
use Rattle.std.proofs.lemmas.List.{get_or-map, length-map}
use Rattle.std.proofs.lemmas.List.Elements.{All-from_get_or}
use Rattle.std.proofs.lemmas.List.Sorted.{IsPermutation-refl}
use Rattle.permutations.specs.Members.{is_member, is_distinct, place_of}
use Rattle.permutations.specs.Relation.{connected}
use Rattle.permutations.specs.Cyclic.{successor}
use Rattle.permutations.proofs.Relation.{connected-least-typed, connected-reflexive, connected-symmetric, connected-transitive}
use Rattle.permutations.proofs.Successor.{successor-member, successor-injective}
use Rattle.multigraph.specs.Graph.{Multigraph, IsGraph, edge_count, is_end, numbers_below, incident_edges}
use Rattle.multigraph.proofs.Below.{length-numbers_below, get_or-numbers_below}
use Rattle.rotations.specs.Rotation.{order_at, IsCyclicOrder, IsRotationSystem}
use Rattle.rotations.proofs.Membership.{member-end}
use Rattle.dart_maps.specs.Map.{twin, same_component}
use Rattle.dart_maps.proofs.Darts.{twin-edge, twin-twin, edge-twin}
use Rattle.dart_maps.proofs.Components.{component-twin}
use Rattle.faces.specs.Euler.{tail, dart_from, IsPlane}
use Rattle.faces.specs.Maps.{dart_after, dart_before}
use Rattle.faces.proofs.DartLemmas.{order-distinct, member-incident, dart_from-edge, dart_from-tail}
use Rattle.faces.proofs.MapSteps.{tail-in}
use Rattle.faces.proofs.MapVertices.{component-tail, tail-component}
use Rattle.faces.proofs.MapCounts.{map-plane}
use Rattle.pair_split.specs.Skeleton.{is_end_of, IsPolygon}
use Rattle.pair_split.specs.Split.{skeleton, items_of, piece_ends}
use Rattle.pair_split.specs.Tutte.{Node, components, node_at, node_item}
use Rattle.pair_split.proofs.NodeParts.{node-piece}
use Rattle.skeletons.specs.Items.{IsBlockTree}
use Rattle.skeletons.specs.Families.{skeleton_graph}
use Rattle.skeletons.proofs.NodeItems.{piece-in, item-in, edge-item}
use Rattle.skeleton_runs.proofs.Items.{skeleton-at, skeleton-in}
use Rattle.skeleton_runs.proofs.Sturdy.{polygon-two}
use Rattle.skeleton_runs.proofs.NodeFits.{vertex-skeleton}
use Rattle.skeleton_runs.proofs.SkeletonGraph.{skeleton-graph, graph-edges}
use Rattle.skeleton_planes.proofs.RunTests.{end_of}
use Rattle.skeleton_planes.proofs.Complements.{follows-itself}
use Rattle.skeleton_planes.proofs.SkeletonDarts.{dart-item, item-dart, end-vertex, same-end_of, tail-place, skeleton-map, step-item, step-end, step-next, own-item, round-item}
use Rattle.skeleton_planes.proofs.Linked.{dart-at, end-of_item, twin-end}
use Rattle.skeleton_planes.proofs.Polygon.{polygon-plane}

-- some place passes where one at least does
some-place : (t : ℕ × ℕ → Bool) (xs : List (ℕ × ℕ)) → 1 ≤ length (filter t xs) → (j : ℕ) × (j < length xs) × (t (slice_index_or xs j (0, 0)) ≡ true)
some-place t [] l = absurd (omega (arith, l))
some-place t (x ∷ xs) l = elim (cases_Bool (t x)) [
  | inl h ↦ (0, omega arith, h)
  | inr h ↦ let w = some-place t xs (subst (λ (u : List (ℕ × ℕ)). 1 ≤ length u) (rw h refl) l) in (suc w.0, omega (arith, w.1), w.2)
]

-- another place passes where two at least do
another-place : (t : ℕ × ℕ → Bool) (xs : List (ℕ × ℕ)) (i : ℕ) → 2 ≤ length (filter t xs) → (j : ℕ) × (j < length xs) × (j ≢ i) × (t (slice_index_or xs j (0, 0)) ≡ true)
another-place t [] i l = absurd (omega (arith, l))
another-place t (x ∷ xs) zero l = let w = some-place t xs (rest (cases_Bool (t x))) in (suc w.0, omega (arith, w.1), λ e. omega (arith, e), w.2)
  where
    rest : (t x ≡ true) ⊎ (t x ≡ false) → 1 ≤ length (filter t xs)
    rest (inl h) = let e : length (filter t (x ∷ xs)) ≡ suc (length (filter t xs)) = rw h refl in omega (arith, l, e)
    rest (inr h) = let e : length (filter t (x ∷ xs)) ≡ length (filter t xs) = rw h refl in omega (arith, l, e)
another-place t (x ∷ xs) (suc i) l = elim (cases_Bool (t x)) [
  | inl h ↦ (0, omega arith, λ e. omega (arith, e), h)
  | inr h ↦ let w = another-place t xs i (subst (λ (u : List (ℕ × ℕ)). 2 ≤ length u) (rw h refl) l) in (suc w.0, omega (arith, w.1), λ e. w.2 (omega (arith, e)), w.3)
]

-- two darts of an item that leave one vertex are one
pub dart-one : (nodes : List Node) (k y z : ℕ) → (node_item nodes k (z / 2)).a < (node_item nodes k (z / 2)).b → y / 2 ≡ z / 2 → end_of nodes k y ≡ end_of nodes k z → y ≡ z
dart-one nodes k y z l h e = elim (edge-twin y z h) [
  | inl i ↦ i
  | inr i ↦ absurd (elim (edge-twin z (2 * (z / 2)) (half z)) [
    | inl o ↦ less (node_item nodes k (z / 2)).a (node_item nodes k (z / 2)).b l (sym (twin-end nodes k (z / 2)).0 ∙ ap (end_of nodes k) (sym o) ∙ sym e ∙ ap (end_of nodes k) (i ∙ ap twin o) ∙ (twin-end nodes k (z / 2)).1)
    | inr o ↦ less (node_item nodes k (z / 2)).a (node_item nodes k (z / 2)).b l (sym (twin-end nodes k (z / 2)).0 ∙ ap (end_of nodes k) (sym (i ∙ ap twin o ∙ twin-twin (2 * (z / 2)))) ∙ e ∙ ap (end_of nodes k) o ∙ (twin-end nodes k (z / 2)).1)
  ])
]
  where
    half : (z : ℕ) → z / 2 ≡ (2 * (z / 2)) / 2
    half z = omega arith

    less : (x y : ℕ) → x < y → x ≡ y → ⊥
    less x y l q = omega (arith, l, q)

-- a rotation system given at each vertex by one of two
pub some-system : (g : Multigraph) (t : ℕ → Bool) (r q : List (List ℕ)) → IsRotationSystem g r → IsRotationSystem g q → IsRotationSystem g (map (λ v. cond (t v) (order_at r v) (order_at q v)) (numbers_below g.vertex_count))
some-system g t r q a c = record {
  vertices = length-map (numbers_below g.vertex_count) (λ v. cond (t v) (order_at r v) (order_at q v)) ∙ length-numbers_below g.vertex_count;
  orders = λ v l. subst (IsCyclicOrder (incident_edges g v)) (sym (at v l)) (elim (cases_Bool (t v)) [
    | inl h ↦ subst (λ (z : Bool). IsCyclicOrder (incident_edges g v) (cond z (order_at r v) (order_at q v))) (sym h) (a.orders v l)
    | inr h ↦ subst (λ (z : Bool). IsCyclicOrder (incident_edges g v) (cond z (order_at r v) (order_at q v))) (sym h) (c.orders v l)
  ]);
}
  where
    at : (v : ℕ) → v < g.vertex_count → order_at (map (λ v. cond (t v) (order_at r v) (order_at q v)) (numbers_below g.vertex_count)) v ≡ cond (t v) (order_at r v) (order_at q v)
    at v l = get_or-map (λ v. cond (t v) (order_at r v) (order_at q v)) (numbers_below g.vertex_count) v 0 [] (subst (λ n. v < n) (sym (length-numbers_below g.vertex_count)) l)
        ∙ ap (λ u. cond (t u) (order_at r u) (order_at q u)) (get_or-numbers_below g.vertex_count v 0 l)

-- its order at a vertex
pub some-order : (g : Multigraph) (t : ℕ → Bool) (r q : List (List ℕ)) (v : ℕ) → v < g.vertex_count → order_at (map (λ v. cond (t v) (order_at r v) (order_at q v)) (numbers_below g.vertex_count)) v ≡ cond (t v) (order_at r v) (order_at q v)
some-order g t r q v l = get_or-map (λ v. cond (t v) (order_at r v) (order_at q v)) (numbers_below g.vertex_count) v 0 [] (subst (λ n. v < n) (sym (length-numbers_below g.vertex_count)) l)
    ∙ ap (λ u. cond (t u) (order_at r u) (order_at q u)) (get_or-numbers_below g.vertex_count v 0 l)

-- the edges at each vertex, rising
abbrev pub rising_system : Multigraph → List (List ℕ)
rising_system g = map (incident_edges g) (numbers_below g.vertex_count)

-- their order at a vertex
pub rising-order : (g : Multigraph) (v : ℕ) → v < g.vertex_count → order_at (rising_system g) v ≡ incident_edges g v
rising-order g v l = get_or-map (incident_edges g) (numbers_below g.vertex_count) v 0 [] (subst (λ n. v < n) (sym (length-numbers_below g.vertex_count)) l) ∙ ap (incident_edges g) (get_or-numbers_below g.vertex_count v 0 l)

-- they are a rotation system
pub rising-system : (g : Multigraph) → IsRotationSystem g (rising_system g)
rising-system g = record {
  vertices = length-map (numbers_below g.vertex_count) (incident_edges g) ∙ length-numbers_below g.vertex_count;
  orders = λ v l. subst (IsCyclicOrder (incident_edges g v)) (sym (rising-order g v l)) (record { arranged = IsPermutation-refl (incident_edges g v); least_first = refl });
}

-- a node of the tree of a block
module _ (g : Multigraph) (nodes : List Node) (b : IsBlockTree g nodes) (k : ℕ) (l : k < length nodes) where
  -- its skeleton as pairs of ends
  abbrev pairs : List (ℕ × ℕ)
  pairs = skeleton (components nodes) k

  -- as a graph
  abbrev graph : Multigraph
  graph = skeleton_graph nodes k

  -- it is a graph
  ok : IsGraph (skeleton_graph nodes k)
  ok = skeleton-graph g nodes b k l

  -- the pair of an item
  pair-at : (i : ℕ) → i < length (node_at nodes k).items → slice_index_or pairs i (0, 0) ≡ ((node_item nodes k i).a, (node_item nodes k i).b)
  pair-at i m = skeleton-at g (components nodes) b.tree.split k i (piece-in g nodes b.tree k i m) ∙ ap piece_ends (node-piece nodes k i m)

  -- has its place
  pub pair-in : (i : ℕ) → i < length (node_at nodes k).items → i < length pairs
  pair-in i m = skeleton-in g (components nodes) b.tree.split k i (piece-in g nodes b.tree k i m)

  -- and each pair is that of an item
  pair-item : (i : ℕ) → i < length pairs → i < length (node_at nodes k).items
  pair-item i m = item-in g nodes b.tree k i (subst (λ n. i < n) (length-map (items_of (components nodes) k) piece_ends) m)

  -- a dart leaves an end of its pair
  pub pair-end : (z : ℕ) → z / 2 < length (node_at nodes k).items → is_end_of (end_of nodes k z) (slice_index_or pairs (z / 2) (0, 0)) ≡ true
  pair-end z m = ap (is_end_of (end_of nodes k z)) (pair-at (z / 2) m) ∙ end-of_item nodes k z

  -- the node has an item
  some-item : 0 < edge_count (skeleton_graph nodes k)
  some-item = let w = edge-item g nodes b.tree k 0 l b.block.has_edge in let e : edge_count graph ≡ length (node_at nodes k).items = graph-edges g nodes b k l in omega (arith, w.1, e)

  -- a rotation system of a polygon
  module _ (s : List (List ℕ)) (system : IsRotationSystem (skeleton_graph nodes k) s) (polygon : IsPolygon (skeleton (components nodes) k)) where
    -- the step round a vertex
    abbrev step : ℕ → ℕ
    step = dart_after (skeleton_graph nodes k) s

    -- at the vertex of a dart
    module _ (z : ℕ) (m : z / 2 < length (node_at nodes k).items) where
      -- the items there
      abbrev items : List ℕ
      items = order_at s (place_of (node_at nodes k).vertices (end_of nodes k z))

      -- they come once
      items-once : is_distinct (order_at s (place_of (node_at nodes k).vertices (end_of nodes k z))) ≡ true
      items-once = subst (λ p. is_distinct (order_at s p) ≡ true) (tail-place g nodes b k l z m) (order-distinct graph s (tail graph z) system (tail-in graph z ok (item-dart g nodes b k l z m)))

      -- there is a second one
      second : (j : ℕ) × (j < length (node_at nodes k).items) × (j ≢ z / 2) × (is_member j (order_at s (place_of (node_at nodes k).vertices (end_of nodes k z))) ≡ true)
      second = let d = polygon.degrees (end_of nodes k z) (vertex-skeleton g nodes b.tree k (end_of nodes k z) (end-vertex g nodes b k l z m)) in
          let w = another-place (is_end_of (end_of nodes k z)) pairs (z / 2) (omega (arith, d)) in
          let i : w.0 < length (node_at nodes k).items = pair-item w.0 w.1 in
          let y = dart-at nodes k w.0 (end_of nodes k z) (sym (ap (is_end_of (end_of nodes k z)) (pair-at w.0 i)) ∙ w.3) in (
            w.0,
            i,
            w.2,
            subst (λ v. is_member w.0 (order_at s (place_of (node_at nodes k).vertices v)) ≡ true) y.2
                (subst (λ n. is_member n (order_at s (place_of (node_at nodes k).vertices (end_of nodes k y.0))) ≡ true) y.1 (own-item g nodes b k l s system y.0 (subst (λ n. n < length (node_at nodes k).items) (sym y.1) i))),
          )

      -- so the next item is another one
      pub next-other : successor items (z / 2) ≢ z / 2
      next-other e = second.2 (follows-itself items (z / 2) items-once (own-item g nodes b k l s system z m) e second.0 second.3)

      -- an item there has the vertex as an end
      pub round-end : (i : ℕ) → is_member i items ≡ true → is_end_of (end_of nodes k z) (slice_index_or pairs i (0, 0)) ≡ true
      round-end i n = let y = dart-of i n in subst (λ v. is_end_of v (slice_index_or pairs i (0, 0)) ≡ true) y.2 (subst (λ n. is_end_of (end_of nodes k y.0) (slice_index_or pairs n (0, 0)) ≡ true) y.1 (pair-end y.0 (subst (λ n. n < length (node_at nodes k).items) (sym y.1) (round-item g nodes b k l s system z i m n))))
        where
          here : place_of (node_at nodes k).vertices (end_of nodes k z) < graph.vertex_count
          here = subst (λ p. p < graph.vertex_count) (tail-place g nodes b k l z m) (tail-in graph z ok (item-dart g nodes b k l z m))

          dart-of : (i : ℕ) → is_member i items ≡ true → (y : ℕ) × (y / 2 ≡ i) × (end_of nodes k y ≡ end_of nodes k z)
          dart-of i n = let e : is_end graph (place_of (node_at nodes k).vertices (end_of nodes k z)) i ≡ true = member-end graph (place_of (node_at nodes k).vertices (end_of nodes k z)) i (member-incident graph s (place_of (node_at nodes k).vertices (end_of nodes k z)) i system here n) in
              let d : ℕ = dart_from graph (place_of (node_at nodes k).vertices (end_of nodes k z)) i in (
                d,
                dart_from-edge graph (place_of (node_at nodes k).vertices (end_of nodes k z)) i,
                same-end_of g nodes b k l d z (subst (λ n. n < length (node_at nodes k).items) (sym (dart_from-edge graph (place_of (node_at nodes k).vertices (end_of nodes k z)) i)) (round-item g nodes b k l s system z i m n)) m
                    (dart_from-tail graph (place_of (node_at nodes k).vertices (end_of nodes k z)) i e ∙ sym (tail-place g nodes b k l z m)),
              )

      -- and the one after it is the first again
      next-twice : successor items (successor items (z / 2)) ≡ z / 2
      next-twice = elim (polygon-two pairs (end_of nodes k z) (z / 2) next after polygon (pair-in (z / 2) m) (pair-in next (round-item g nodes b k l s system z next m next-in)) (pair-in after (round-item g nodes b k l s system z after m after-in))
          (λ e. next-other (sym e)) (pair-end z m) (round-end next next-in) (round-end after after-in)) [
            | inl e ↦ e
            | inr e ↦ absurd (next-other (successor-injective items next (z / 2) items-once e))
          ]
        where
          next : ℕ
          next = successor items (z / 2)

          after : ℕ
          after = successor items (successor items (z / 2))

          next-in : is_member (successor items (z / 2)) items ≡ true
          next-in = successor-member items (z / 2) (own-item g nodes b k l s system z m)

          after-in : is_member (successor items (successor items (z / 2))) items ≡ true
          after-in = successor-member items next next-in

    -- two steps round a vertex lead back
    step-twice : (z : ℕ) → z < 2 * edge_count (skeleton_graph nodes k) → step (step z) ≡ z
    step-twice z n = dart-one nodes k (step (step z)) z (b.tree.in_order.ends_rise k (z / 2) m)
        (step-next g nodes b k l s system (step z) sm ∙ ap₂ (λ v i. successor (order_at s (place_of (node_at nodes k).vertices v)) i) (step-end g nodes b k l s system z m) (step-next g nodes b k l s system z m) ∙ next-twice z m)
        (step-end g nodes b k l s system (step z) sm ∙ step-end g nodes b k l s system z m)
      where
        m : z / 2 < length (node_at nodes k).items
        m = dart-item g nodes b k l z n

        sm : step z / 2 < length (node_at nodes k).items
        sm = step-item g nodes b k l s system z m

    -- and one doesn't
    step-moves : (z : ℕ) → z < 2 * edge_count (skeleton_graph nodes k) → step z ≡ z → ⊥
    step-moves z n e = next-other z (dart-item g nodes b k l z n) (sym (step-next g nodes b k l s system z (dart-item g nodes b k l z n)) ∙ ap (λ x. x / 2) e)

    -- the places of vertices that the skeleton connects are connected
    places-connected : (u v : ℕ) → connected pairs u v ≡ true → connected (skeleton_graph nodes k).ends (place_of (node_at nodes k).vertices u) (place_of (node_at nodes k).vertices v) ≡ true
    places-connected u v t = connected-least-typed pairs (λ x y. connected graph.ends (place_of (node_at nodes k).vertices x) (place_of (node_at nodes k).vertices y) ≡ true)
        (λ x. connected-reflexive graph.ends (place_of (node_at nodes k).vertices x)) (λ x y. connected-symmetric graph.ends (place_of (node_at nodes k).vertices x) (place_of (node_at nodes k).vertices y))
        (λ x y z. connected-transitive graph.ends (place_of (node_at nodes k).vertices x) (place_of (node_at nodes k).vertices y) (place_of (node_at nodes k).vertices z))
        (All-from_get_or (λ (link : ℕ × ℕ). connected graph.ends (place_of (node_at nodes k).vertices link.0) (place_of (node_at nodes k).vertices link.1) ≡ true) pairs (0, 0) each) u v t
      where
        along : (i : ℕ) → i < length (node_at nodes k).items → connected graph.ends (place_of (node_at nodes k).vertices (node_item nodes k i).a) (place_of (node_at nodes k).vertices (node_item nodes k i).b) ≡ true
        along i m = subst (λ p. connected graph.ends p (place_of (node_at nodes k).vertices (node_item nodes k i).b) ≡ true) (tail-place g nodes b k l (2 * i) m0 ∙ ap (place_of (node_at nodes k).vertices) (twin-end nodes k i).0)
            (subst (λ p. connected graph.ends (tail graph (2 * i)) p ≡ true) (tail-place g nodes b k l (twin (2 * i)) m1 ∙ ap (place_of (node_at nodes k).vertices) (twin-end nodes k i).1)
            (component-tail graph s ok system (2 * i) (twin (2 * i)) (component-twin (edge_count graph) step (2 * i) (item-dart g nodes b k l (2 * i) m0))))
          where
            half : (n : ℕ) → (2 * n) / 2 ≡ n
            half n = omega arith

            m0 : (2 * i) / 2 < length (node_at nodes k).items
            m0 = subst (λ n. n < length (node_at nodes k).items) (sym (half i)) m

            m1 : twin (2 * i) / 2 < length (node_at nodes k).items
            m1 = subst (λ n. n < length (node_at nodes k).items) (sym (twin-edge (2 * i))) m0

        each : (i : ℕ) → i < length pairs → connected graph.ends (place_of (node_at nodes k).vertices (slice_index_or pairs i (0, 0)).0) (place_of (node_at nodes k).vertices (slice_index_or pairs i (0, 0)).1) ≡ true
        each i m = subst (λ (p : ℕ × ℕ). connected graph.ends (place_of (node_at nodes k).vertices p.0) (place_of (node_at nodes k).vertices p.1) ≡ true) (sym (pair-at i (pair-item i m))) (along i (pair-item i m))

    -- all darts are of one component
    step-connected : (y z : ℕ) → y < 2 * edge_count (skeleton_graph nodes k) → z < 2 * edge_count (skeleton_graph nodes k) → same_component (edge_count (skeleton_graph nodes k)) step y z ≡ true
    step-connected y z my mz = tail-component graph s ok system y z my mz
        (subst (λ p. connected graph.ends p (tail graph z) ≡ true) (sym (tail-place g nodes b k l y (dart-item g nodes b k l y my)))
        (subst (λ p. connected graph.ends (place_of (node_at nodes k).vertices (end_of nodes k y)) p ≡ true) (sym (tail-place g nodes b k l z (dart-item g nodes b k l z mz)))
        (places-connected (end_of nodes k y) (end_of nodes k z) (polygon.connects (end_of nodes k y) (end_of nodes k z)
        (vertex-skeleton g nodes b.tree k (end_of nodes k y) (end-vertex g nodes b k l y (dart-item g nodes b k l y my))) (vertex-skeleton g nodes b.tree k (end_of nodes k z) (end-vertex g nodes b k l z (dart-item g nodes b k l z mz)))))))

    -- so it is plane
    pub polygon-system_plane : IsPlane (skeleton_graph nodes k) s
    polygon-system_plane = map-plane graph s ok system (polygon-plane (edge_count graph) step (dart_before graph s) (skeleton-map g nodes b k l s system) some-item step-twice step-moves step-connected)
