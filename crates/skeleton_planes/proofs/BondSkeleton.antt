-- The skeletons of bonds: a rotation system of one is plane exactly where the order at the one pole is the reverse of that at
-- the other.
use Rattle.std.proofs.Common.{◌≡◌, ℕ, ◌*◌, ◌/◌, ◌%◌, ◌<◌, Bool, true, not, ◌==◌, cond, List, length, map, reverse, inl, inr, refl, sym, ap, ap₂, ◌∙◌, subst, arith, eq-eqb, eqb-true}
use Rattle.std.proofs.lemmas.Bool.{cases_Bool, both_ways, ne_eqb, or_left, or_right}
use Rattle.std.proofs.lemmas.List.Elements.{All-get_or}
use Rattle.permutations.specs.Members.{is_member, is_distinct, place_of}
use Rattle.permutations.specs.Cyclic.{successor, predecessor, from_least}
use Rattle.permutations.proofs.Members.{member-reverse, distinct-reverse}
use Rattle.permutations.proofs.Successor.{successor-absent, predecessor-successor, successor-predecessor}
use Rattle.permutations.proofs.CyclicSame.{same-lists}
use Rattle.permutations.proofs.NormalForm.{mirror-successor, from_least-member, from_least-distinct}
use Rattle.permutations.proofs.Filter.{filter-ext}
use Rattle.permutations.proofs.Arrangements.{permutation-member, contains-from_member}
use Rattle.multigraph.specs.Graph.{Multigraph, IsGraph, edge_count, ends_of, is_end, numbers_below, incident_edges}
use Rattle.rotations.specs.Rotation.{order_at, IsRotationSystem}
use Rattle.dart_maps.specs.Map.{twin, face, same_vertex}
use Rattle.dart_maps.proofs.Darts.{twin-edge, twin-cases, dart-cases}
use Rattle.dart_maps.proofs.Bond.{bond-plane, bond-plane-back}
use Rattle.faces.specs.Euler.{IsPlane, IsPlaneSystem}
use Rattle.faces.specs.Maps.{dart_after, dart_before}
use Rattle.rotations.specs.Runs.{mirror_image}
use Rattle.faces.proofs.DartLemmas.{order-distinct}
use Rattle.faces.proofs.MapSteps.{tail-in}
use Rattle.faces.proofs.MapVertices.{tail-vertex}
use Rattle.faces.proofs.MapCounts.{plane-map, map-plane}
use Rattle.faces.proofs.MapMirror.{mirror-order, mirror-system, order-least}
use Rattle.faces.proofs.MapLists.{first-same}
use Rattle.faces.proofs.MapPartOrders.{from_least-least}
use Rattle.pair_split.specs.Skeleton.{SameEnds, HasPoles}
use Rattle.pair_split.specs.Split.{skeleton, piece_ends}
use Rattle.pair_split.specs.Tutte.{Node, components, node_at, node_item}
use Rattle.pair_split.proofs.GraphFamily.{contains-below}
use Rattle.pair_split.proofs.NodeParts.{node-piece}
use Rattle.skeletons.specs.Items.{IsBlockTree}
use Rattle.skeletons.specs.Families.{skeleton_graph}
use Rattle.skeletons.proofs.NodeItems.{piece-in, edge-item}
use Rattle.skeleton_runs.proofs.Items.{skeleton-at, skeleton-in}
use Rattle.skeleton_runs.proofs.SkeletonGraph.{skeleton-graph, graph-edges, graph-ends}
use Rattle.skeleton_runs.proofs.SkeletonGraph.{edge-item as graph-item}
use Rattle.skeleton_planes.proofs.RunTests.{end_of}
use Rattle.skeleton_planes.proofs.SkeletonDarts.{dart-item, item-dart, same-end_of, tail-place, skeleton-map, step-item, step-end, step-next, round-item}
use Rattle.skeleton_planes.proofs.PolygonSkeleton.{some-system, some-order, rising_system, rising-order, rising-system}

-- two pairs with the same two ends, each time the lesser one first
same-pairs : (p : ℕ × ℕ) (a b c d : ℕ) → a < b → c < d → SameEnds p (a, b) → SameEnds p (c, d) → (c ≡ a) × (d ≡ b)
same-pairs p a b c d l m (inl e) (inl f) = (sym f.0 ∙ e.0, sym f.1 ∙ e.1)
same-pairs p a b c d l m (inr e) (inr f) = (sym f.1 ∙ e.1, sym f.0 ∙ e.0)
same-pairs p a b c d l m (inl e) (inr f) = absurd (omega (arith, l, m, e.0, e.1, f.0, f.1))
same-pairs p a b c d l m (inr e) (inl f) = absurd (omega (arith, l, m, e.0, e.1, f.0, f.1))

-- the other parity
twin-odd : (z : ℕ) → z % 2 ≡ 0 → twin z % 2 ≡ 1
twin-odd z e = elim (twin-cases z) [ inl a ↦ omega (arith, a.0, a.1) | inr a ↦ absurd (omega (arith, a.0, e)) ]

-- and the other way round
twin-evens : (z : ℕ) → z % 2 ≡ 1 → twin z % 2 ≡ 0
twin-evens z e = elim (twin-cases z) [ inl a ↦ absurd (omega (arith, a.0, e)) | inr a ↦ omega (arith, a.0, a.1) ]

-- a number from its half and its parity
same-halves : (y z : ℕ) → y / 2 ≡ z / 2 → y % 2 ≡ z % 2 → y ≡ z
same-halves y z h p = omega (arith, h, p)

-- a node whose items all join two vertices
module _ (g : Multigraph) (nodes : List Node) (b : IsBlockTree g nodes) (k : ℕ) (l : k < length nodes) (poles : HasPoles (skeleton (components nodes) k)) where
  -- its skeleton
  abbrev graph : Multigraph
  graph = skeleton_graph nodes k

  -- it is a graph
  ok : IsGraph (skeleton_graph nodes k)
  ok = skeleton-graph g nodes b k l

  -- how many items it has
  abbrev number : ℕ
  number = length (node_at nodes k).items

  -- one at least
  pub some-item : 0 < length (node_at nodes k).items
  some-item = let w = edge-item g nodes b.tree k 0 l b.block.has_edge in omega (arith, w.1)

  -- the two vertices
  abbrev lesser : ℕ
  lesser = (node_item nodes k 0).a

  -- the other
  abbrev greater : ℕ
  greater = (node_item nodes k 0).b

  -- they differ
  pub differ : (node_item nodes k 0).a < (node_item nodes k 0).b
  differ = b.tree.in_order.ends_rise k 0 some-item

  -- an item joins the poles
  item-poles : (i : ℕ) → i < number → SameEnds poles.poles ((node_item nodes k i).a, (node_item nodes k i).b)
  item-poles i m = subst (SameEnds poles.poles) (skeleton-at g (components nodes) b.tree.split k i (piece-in g nodes b.tree k i m) ∙ ap piece_ends (node-piece nodes k i m))
      (All-get_or (SameEnds poles.poles) (skeleton (components nodes) k) i (0, 0) (skeleton-in g (components nodes) b.tree.split k i (piece-in g nodes b.tree k i m)) poles.joined)

  -- so all have the same ends
  pub item-ends : (i : ℕ) → i < length (node_at nodes k).items → ((node_item nodes k i).a ≡ (node_item nodes k 0).a) × ((node_item nodes k i).b ≡ (node_item nodes k 0).b)
  item-ends i m = same-pairs poles.poles lesser greater (node_item nodes k i).a (node_item nodes k i).b differ (b.tree.in_order.ends_rise k i m) (item-poles 0 some-item) (item-poles i m)

  -- an even dart leaves the lesser
  even-end : (z : ℕ) → z / 2 < number → z % 2 ≡ 0 → end_of nodes k z ≡ lesser
  even-end z m p = ap (λ (t : Bool). cond t (node_item nodes k (z / 2)).a (node_item nodes k (z / 2)).b) (eq-eqb (z % 2) 0 p) ∙ (item-ends (z / 2) m).0

  -- an odd one the greater
  odd-end : (z : ℕ) → z / 2 < number → z % 2 ≡ 1 → end_of nodes k z ≡ greater
  odd-end z m p = ap (λ (t : Bool). cond t (node_item nodes k (z / 2)).a (node_item nodes k (z / 2)).b) (ne_eqb (z % 2) 0 (λ e. omega (arith, p, e))) ∙ (item-ends (z / 2) m).1

  -- darts that leave one of them have one parity
  end-parity : (y z : ℕ) → y / 2 < number → z / 2 < number → end_of nodes k y ≡ end_of nodes k z → y % 2 ≡ z % 2
  end-parity y z my mz e = elim (dart-cases y) [
    | inl i ↦ elim (dart-cases z) [
      | inl o ↦ i ∙ sym o
      | inr o ↦ absurd (apart (sym (even-end y my i) ∙ e ∙ odd-end z mz o))
    ]
    | inr i ↦ elim (dart-cases z) [
      | inl o ↦ absurd (apart (sym (even-end z mz o) ∙ sym e ∙ odd-end y my i))
      | inr o ↦ i ∙ sym o
    ]
  ]
    where
      apart : lesser ≡ greater → ⊥
      apart q = omega (arith, differ, q)

  -- and the other way round
  parity-end : (y z : ℕ) → y / 2 < number → z / 2 < number → y % 2 ≡ z % 2 → end_of nodes k y ≡ end_of nodes k z
  parity-end y z my mz e = elim (dart-cases z) [
    | inl i ↦ even-end y my (e ∙ i) ∙ sym (even-end z mz i)
    | inr i ↦ odd-end y my (e ∙ i) ∙ sym (odd-end z mz i)
  ]

  -- twins are of one item
  twin-item : (z : ℕ) → z / 2 < number → twin z / 2 < number
  twin-item z m = subst (λ n. n < number) (sym (twin-edge z)) m

  -- the places of the two vertices
  abbrev lesser_place : ℕ
  lesser_place = place_of (node_at nodes k).vertices lesser

  -- the other
  abbrev greater_place : ℕ
  greater_place = place_of (node_at nodes k).vertices greater

  -- a dart at the one, and one at the other
  first-dart : (end_of nodes k 0 ≡ lesser) × (end_of nodes k 1 ≡ greater)
  first-dart = (refl, refl)

  -- they are vertices of the skeleton
  pub lesser-in : place_of (node_at nodes k).vertices (node_item nodes k 0).a < (skeleton_graph nodes k).vertex_count
  lesser-in = subst (λ p. p < graph.vertex_count) (tail-place g nodes b k l 0 some-item) (tail-in graph 0 ok (item-dart g nodes b k l 0 some-item))

  -- the other
  pub greater-in : place_of (node_at nodes k).vertices (node_item nodes k 0).b < (skeleton_graph nodes k).vertex_count
  greater-in = subst (λ p. p < graph.vertex_count) (tail-place g nodes b k l 1 some-item) (tail-in graph 1 ok (item-dart g nodes b k l 1 some-item))

  -- they differ
  pub places-differ : place_of (node_at nodes k).vertices (node_item nodes k 0).b ≡ place_of (node_at nodes k).vertices (node_item nodes k 0).a → ⊥
  places-differ e = omega (arith, differ, same-end_of g nodes b k l 1 0 some-item some-item (tail-place g nodes b k l 1 some-item ∙ e ∙ sym (tail-place g nodes b k l 0 some-item)))

  -- each item stands at both
  all-ends : (i : ℕ) → i < edge_count (skeleton_graph nodes k) → (is_end graph lesser_place i ≡ true) × (is_end graph greater_place i ≡ true)
  all-ends i n = let m : i < number = graph-item g nodes b k l i n in
      let e : ends_of graph i ≡ (lesser_place, greater_place) = graph-ends g nodes b k l i m ∙ ap₂ (λ x y. (place_of (node_at nodes k).vertices x, place_of (node_at nodes k).vertices y)) (item-ends i m).0 (item-ends i m).1 in (
        or_left ((ends_of graph i).0 == lesser_place) ((ends_of graph i).1 == lesser_place) (eq-eqb (ends_of graph i).0 lesser_place (ap (λ (p : ℕ × ℕ). p.0) e)),
        or_right ((ends_of graph i).0 == greater_place) ((ends_of graph i).1 == greater_place) (eq-eqb (ends_of graph i).1 greater_place (ap (λ (p : ℕ × ℕ). p.1) e)),
      )

  -- so the same edges stand at both
  pub same-incident : incident_edges (skeleton_graph nodes k) (place_of (node_at nodes k).vertices (node_item nodes k 0).b) ≡ incident_edges (skeleton_graph nodes k) (place_of (node_at nodes k).vertices (node_item nodes k 0).a)
  same-incident = filter-ext (is_end graph greater_place) (is_end graph lesser_place) (numbers_below (edge_count graph)) (λ x m.
      let n : x < edge_count graph = contains-below (edge_count graph) x (contains-from_member (numbers_below (edge_count graph)) x m) in (all-ends x n).1 ∙ sym (all-ends x n).0)

  -- a rotation system of the skeleton
  module _ (s : List (List ℕ)) (system : IsRotationSystem (skeleton_graph nodes k) s) where
    -- the step round a vertex
    abbrev step : ℕ → ℕ
    step = dart_after (skeleton_graph nodes k) s

    -- the order at the lesser
    abbrev first : List ℕ
    first = order_at s lesser_place

    -- and at the greater
    abbrev second : List ℕ
    second = order_at s greater_place

    -- both without repetition
    first-distinct : is_distinct (order_at s lesser_place) ≡ true
    first-distinct = order-distinct graph s lesser_place system lesser-in

    -- the second
    second-distinct : is_distinct (order_at s greater_place) ≡ true
    second-distinct = order-distinct graph s greater_place system greater-in

    -- with the same members
    same-members : (x : ℕ) → is_member x second ≡ is_member x first
    same-members x = permutation-member (incident_edges graph greater_place) second x (system.orders greater_place greater-in).arranged ∙ ap (is_member x) same-incident
        ∙ sym (permutation-member (incident_edges graph lesser_place) first x (system.orders lesser_place lesser-in).arranged)

    -- the step keeps the parity
    step-parity : (z : ℕ) → z / 2 < number → step z % 2 ≡ z % 2
    step-parity z m = end-parity (step z) z (step-item g nodes b k l s system z m) m (step-end g nodes b k l s system z m)

    -- at the lesser it goes on as the first order does
    step-even : (z : ℕ) → z / 2 < number → z % 2 ≡ 0 → step z / 2 ≡ successor first (z / 2)
    step-even z m p = step-next g nodes b k l s system z m ∙ ap (λ v. successor (order_at s (place_of (node_at nodes k).vertices v)) (z / 2)) (even-end z m p)

    -- at the greater as the second
    step-odd : (z : ℕ) → z / 2 < number → z % 2 ≡ 1 → step z / 2 ≡ successor second (z / 2)
    step-odd z m p = step-next g nodes b k l s system z m ∙ ap (λ v. successor (order_at s (place_of (node_at nodes k).vertices v)) (z / 2)) (odd-end z m p)

    -- two steps along a face, from the lesser
    face-even : (z : ℕ) → z / 2 < number → z % 2 ≡ 0 → (face step (face step z) / 2 ≡ successor first (successor second (z / 2))) × (face step (face step z) % 2 ≡ 0)
    face-even z m p = (
      step-even (twin y) (twin-item y my) (twin-evens y odd) ∙ ap (successor first) (twin-edge y ∙ step-odd (twin z) (twin-item z m) (twin-odd z p) ∙ ap (successor second) (twin-edge z)),
      step-parity (twin y) (twin-item y my) ∙ twin-evens y odd,
    )
      where
        y : ℕ
        y = step (twin z)

        my : step (twin z) / 2 < number
        my = step-item g nodes b k l s system (twin z) (twin-item z m)

        odd : step (twin z) % 2 ≡ 1
        odd = step-parity (twin z) (twin-item z m) ∙ twin-odd z p

    -- and from the greater
    face-odd : (z : ℕ) → z / 2 < number → z % 2 ≡ 1 → (face step (face step z) / 2 ≡ successor second (successor first (z / 2))) × (face step (face step z) % 2 ≡ 1)
    face-odd z m p = (
      step-odd (twin y) (twin-item y my) (twin-odd y even) ∙ ap (successor second) (twin-edge y ∙ step-even (twin z) (twin-item z m) (twin-evens z p) ∙ ap (successor first) (twin-edge z)),
      step-parity (twin y) (twin-item y my) ∙ twin-odd y even,
    )
      where
        y : ℕ
        y = step (twin z)

        my : step (twin z) / 2 < number
        my = step-item g nodes b k l s system (twin z) (twin-item z m)

        even : step (twin z) % 2 ≡ 0
        even = step-parity (twin z) (twin-item z m) ∙ twin-evens z p

    -- whether a dart is even
    abbrev even : ℕ → Bool
    even z = z % 2 == 0

    -- its twin is not
    even-twin : (z : ℕ) → z < 2 * edge_count (skeleton_graph nodes k) → even (twin z) ≡ not (even z)
    even-twin z n = elim (dart-cases z) [
      | inl p ↦ ne_eqb (twin z % 2) 0 (λ e. omega (arith, e, twin-odd z p)) ∙ sym (ap not (eq-eqb (z % 2) 0 p))
      | inr p ↦ eq-eqb (twin z % 2) 0 (twin-evens z p) ∙ sym (ap not (ne_eqb (z % 2) 0 (λ e. omega (arith, e, p))))
    ]

    -- the step keeps it
    even-step : (z : ℕ) → z < 2 * edge_count (skeleton_graph nodes k) → even (step z) ≡ even z
    even-step z n = ap (λ x. x == 0) (step-parity z (dart-item g nodes b k l z n))

    -- darts of one parity leave one vertex
    even-vertex : (y z : ℕ) → y < 2 * edge_count (skeleton_graph nodes k) → z < 2 * edge_count (skeleton_graph nodes k) → even y ≡ even z → same_vertex (edge_count (skeleton_graph nodes k)) step y z ≡ true
    even-vertex y z ny nz e = tail-vertex graph s ok system y z ny nz (tail-place g nodes b k l y my ∙ ap (place_of (node_at nodes k).vertices) (parity-end y z my mz (same e)) ∙ sym (tail-place g nodes b k l z mz))
      where
        my : y / 2 < number
        my = dart-item g nodes b k l y ny

        mz : z / 2 < number
        mz = dart-item g nodes b k l z nz

        same : even y ≡ even z → y % 2 ≡ z % 2
        same e = elim (dart-cases z) [
          | inl p ↦ eqb-true (y % 2) 0 (e ∙ eq-eqb (z % 2) 0 p) ∙ sym p
          | inr p ↦ elim (dart-cases y) [
            | inl q ↦ absurd (both_ways (even z) (ne_eqb (z % 2) 0 (λ o. omega (arith, o, p))) (sym e ∙ eq-eqb (y % 2) 0 q))
            | inr q ↦ q ∙ sym p
          ]
        ]

    -- there is an edge
    some-edge : 0 < edge_count (skeleton_graph nodes k)
    some-edge = let e : edge_count graph ≡ number = graph-edges g nodes b k l in omega (arith, e, some-item)

    -- plane where the order at the greater is the reverse of that at the lesser
    pub reversed-plane : order_at s (place_of (node_at nodes k).vertices (node_item nodes k 0).b) ≡ from_least (reverse (order_at s (place_of (node_at nodes k).vertices (node_item nodes k 0).a))) → IsPlane (skeleton_graph nodes k) s
    reversed-plane e = map-plane graph s ok system (bond-plane (edge_count graph) step (dart_before graph s) (skeleton-map g nodes b k l s system) some-edge even even-twin even-step even-vertex back)
      where
        behind : (i : ℕ) → successor second i ≡ predecessor first i
        behind i = ap (λ o. successor o i) e ∙ mirror-successor first i first-distinct

        back : (z : ℕ) → z < 2 * edge_count (skeleton_graph nodes k) → face step (face step z) ≡ z
        back z n = elim (dart-cases z) [
          | inl p ↦ let w = face-even z (dart-item g nodes b k l z n) p in same-halves (face step (face step z)) z (w.0 ∙ ap (successor first) (behind (z / 2)) ∙ successor-predecessor first (z / 2) first-distinct) (w.1 ∙ sym p)
          | inr p ↦ let w = face-odd z (dart-item g nodes b k l z n) p in same-halves (face step (face step z)) z (w.0 ∙ behind (successor first (z / 2)) ∙ predecessor-successor first (z / 2) first-distinct) (w.1 ∙ sym p)
        ]

    -- two steps along a face of a plane one lead back
    pub plane-back : IsPlane (skeleton_graph nodes k) s → (z : ℕ) → z < 2 * edge_count (skeleton_graph nodes k) → face (dart_after (skeleton_graph nodes k) s) (face (dart_after (skeleton_graph nodes k) s) z) ≡ z
    plane-back p = bond-plane-back (edge_count graph) step (dart_before graph s) (skeleton-map g nodes b k l s system) some-edge even even-twin even-step even-vertex (plane-map graph s ok system p)

    -- and only there
    pub plane-reversed : IsPlane (skeleton_graph nodes k) s → order_at s (place_of (node_at nodes k).vertices (node_item nodes k 0).b) ≡ from_least (reverse (order_at s (place_of (node_at nodes k).vertices (node_item nodes k 0).a)))
    plane-reversed p = same-lists second (from_least (reverse first)) second-distinct (from_least-distinct (reverse first) (distinct-reverse first first-distinct))
        (first-same second (from_least (reverse first)) members (order-least graph s greater_place system greater-in) (from_least-least (reverse first)))
        members behind
      where
        members : (x : ℕ) → is_member x second ≡ is_member x (from_least (reverse first))
        members x = same-members x ∙ sym (from_least-member (reverse first) x ∙ member-reverse x first)

        half : (i : ℕ) → (2 * i) / 2 ≡ i
        half i = omega arith

        whole : (i : ℕ) → i < number → successor first (successor second i) ≡ i
        whole i m = let mi : (2 * i) / 2 < number = subst (λ n. n < number) (sym (half i)) m in
            ap (λ n. successor first (successor second n)) (sym (half i)) ∙ sym (face-even (2 * i) mi (omega arith)).0 ∙ ap (λ x. x / 2) (plane-back p (2 * i) (item-dart g nodes b k l (2 * i) mi)) ∙ half i

        behind : (x : ℕ) → successor second x ≡ successor (from_least (reverse first)) x
        behind x = elim (cases_Bool (is_member x second)) [
          | inl h ↦ sym (predecessor-successor first (successor second x) first-distinct) ∙ ap (predecessor first) (whole x (in_range x h)) ∙ sym (mirror-successor first x first-distinct)
          | inr h ↦ successor-absent second x h ∙ sym (successor-absent (from_least (reverse first)) x (sym (members x) ∙ h))
        ]
          where
            in_range : (x : ℕ) → is_member x second ≡ true → x < number
            in_range x h = round-item g nodes b k l s system 1 x some-item (ap (λ v. is_member x (order_at s (place_of (node_at nodes k).vertices v))) first-dart.1 ∙ h)

  -- the rising order at the lesser, and its reverse at the greater
  abbrev pub bond_system : List (List ℕ)
  bond_system = map (λ v. cond (v == lesser_place) (order_at (rising_system graph) v) (order_at (mirror_image (rising_system graph)) v)) (numbers_below graph.vertex_count)

  -- it is a plane rotation system
  pub bond-system_plane : (s : List (List ℕ)) × IsPlaneSystem (skeleton_graph nodes k) s
  bond-system_plane = (bond_system, record { system = system; plane = reversed-plane bond_system system (at_greater ∙ ap (λ o. from_least (reverse o)) (rising-order graph greater_place greater-in ∙ same-incident ∙ sym (rising-order graph lesser_place lesser-in) ∙ sym at_lesser)) })
    where
      system : IsRotationSystem (skeleton_graph nodes k) bond_system
      system = some-system graph (λ v. v == lesser_place) (rising_system graph) (mirror_image (rising_system graph)) (rising-system graph) (mirror-system graph (rising_system graph) (rising-system graph))

      at_lesser : order_at bond_system lesser_place ≡ order_at (rising_system graph) lesser_place
      at_lesser = some-order graph (λ v. v == lesser_place) (rising_system graph) (mirror_image (rising_system graph)) lesser_place lesser-in
          ∙ ap (λ (t : Bool). cond t (order_at (rising_system graph) lesser_place) (order_at (mirror_image (rising_system graph)) lesser_place)) (eq-eqb lesser_place lesser_place refl)

      at_greater : order_at bond_system greater_place ≡ from_least (reverse (order_at (rising_system graph) greater_place))
      at_greater = some-order graph (λ v. v == lesser_place) (rising_system graph) (mirror_image (rising_system graph)) greater_place greater-in
          ∙ ap (λ (t : Bool). cond t (order_at (rising_system graph) greater_place) (order_at (mirror_image (rising_system graph)) greater_place)) (ne_eqb greater_place lesser_place places-differ)
          ∙ mirror-order (rising_system graph) greater_place
