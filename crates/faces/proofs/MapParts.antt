-- What a plane rotation system leaves of itself on a subgraph is plane.
use Rattle.std.proofs.Common.{◌≡◌, ℕ, ◌+◌, ◌*◌, ◌/◌, ◌%◌, ◌<◌, inl, inr, Bool, true, ◌==◌, List, map, filter, refl, sym, ap, ◌∙◌, arith}
use Rattle.std.proofs.lemmas.Bool.{cases_eq, eq-eqb, eqb-true}
use Rattle.permutations.specs.Count.{least}
use Rattle.permutations.specs.Members.{is_member}
use Rattle.permutations.specs.Cyclic.{successor}
use Rattle.permutations.specs.Exchange.{restricted}
use Rattle.permutations.proofs.Search.{some-from, least-below, least-passes}
use Rattle.permutations.proofs.Successor.{successor-member}
use Rattle.permutations.proofs.Filter.{member-filter_parts, distinct-filter}
use Rattle.permutations.proofs.Turned.{IsTurn-member, IsTurn-successor}
use Rattle.permutations.proofs.Restriction.{restricted-alone, restricted-permutes}
use Rattle.permutations.proofs.Mapped.{member-map}
use Rattle.multigraph.specs.Graph.{Multigraph, IsGraph, edge_count, ends_of}
use Rattle.rotations.specs.Rotation.{order_at, IsRotationSystem}
use Rattle.rotations.proofs.Membership.{member-edge}
use Rattle.dart_maps.specs.Map.{twin}
use Rattle.dart_maps.specs.Renumbering.{IsRenumbering}
use Rattle.dart_maps.proofs.Darts.{twin-cases, twin-edge}
use Rattle.dart_maps.proofs.Plane.{restricted-plane}
use Rattle.dart_maps.proofs.Renumber.{renumber-plane-back}
use Rattle.faces.specs.Euler.{tail, dart_from, dart_count, IsPlane}
use Rattle.faces.specs.Maps.{dart_after, dart_before}
use Rattle.faces.specs.Subgraph.{IsSubgraph, is_kept, IsRestriction}
use Rattle.faces.proofs.DartLemmas.{dart-edge, dart_from-first, dart_from-second, dart_from-of_dart, order-distinct, member-incident}
use Rattle.faces.proofs.MapSteps.{tail-in, map-permutes}
use Rattle.faces.proofs.MapVertices.{tail-order}
use Rattle.faces.proofs.MapCounts.{plane-map, map-plane}
use Rattle.faces.proofs.MapLists.{successor-map}
use Rattle.faces.proofs.MapRestricted.{restricted-order}

-- the number in the part of an edge of g
pub place : Multigraph → (ℕ → ℕ) → ℕ → ℕ
place part edge e = least (edge_count part) (λ i. edge i == e)

-- the part's edges are kept
pub edge-kept : (part : Multigraph) (edge : ℕ → ℕ) (i : ℕ) → i < edge_count part → is_kept part edge (edge i) ≡ true
edge-kept part edge i l = some-from (edge_count part) (λ j. edge j == edge i) i l (eq-eqb (edge i) (edge i) refl)

-- a kept edge has its place
pub place-edge : (part : Multigraph) (edge : ℕ → ℕ) (e : ℕ) → is_kept part edge e ≡ true → (place part edge e < edge_count part) × (edge (place part edge e) ≡ e)
unfolding place
place-edge part edge e h = (least-below (edge_count part) (λ i. edge i == e) h, eqb-true (edge (place part edge e)) e (least-passes (edge_count part) (λ i. edge i == e) h))

-- which is the part's number of it
pub edge-place : (part g : Multigraph) (edge vertex : ℕ → ℕ) → IsSubgraph part g edge vertex → (i : ℕ) → i < edge_count part → place part edge (edge i) ≡ i
edge-place part g edge vertex sub i l =
    let w = place-edge part edge (edge i) (edge-kept part edge i l) in
    sub.edges_once (place part edge (edge i)) i w.0 l w.1

-- a dart of g for each dart of the part, by the edges' numbers; and back
pub renumbered : (ℕ → ℕ) → ℕ → ℕ
renumbered number d = 2 * number (d / 2) + d % 2

renumbered-edge : (number : ℕ → ℕ) (d : ℕ) → renumbered number d / 2 ≡ number (d / 2)
unfolding renumbered
renumbered-edge number d = omega arith

renumbered-end : (number : ℕ → ℕ) (d : ℕ) → renumbered number d % 2 ≡ d % 2
unfolding renumbered
renumbered-end number d = omega arith

renumbered-below : (number : ℕ → ℕ) (d n : ℕ) → number (d / 2) < n → renumbered number d < 2 * n
unfolding renumbered
renumbered-below number d n l = omega arith

-- numbers that lead back lead darts back
renumbered-back : (number back : ℕ → ℕ) (d : ℕ) → number (back (d / 2)) ≡ d / 2 → renumbered number (renumbered back d) ≡ d
renumbered-back number back d h =
    let halves : number (renumbered back d / 2) ≡ d / 2 = ap number (renumbered-edge back d) ∙ h in
    omega (arith, halves, renumbered-edge number (renumbered back d), renumbered-end number (renumbered back d), renumbered-end back d)

-- twins go to twins
renumbered-twin : (number : ℕ → ℕ) (d : ℕ) → renumbered number (twin d) ≡ twin (renumbered number d)
renumbered-twin number d = elim (twin-cases d) [
  | inl a ↦ elim (twin-cases (renumbered number d)) [
    | inl b ↦ omega (arith, a.0, a.1, b.0, b.1, halves, renumbered-edge number d, renumbered-edge number (twin d), renumbered-end number d, renumbered-end number (twin d))
    | inr b ↦ omega (arith, a.0, a.1, b.0, b.1, halves, renumbered-edge number d, renumbered-edge number (twin d), renumbered-end number d, renumbered-end number (twin d))
  ]
  | inr a ↦ elim (twin-cases (renumbered number d)) [
    | inl b ↦ omega (arith, a.0, a.1, b.0, b.1, halves, renumbered-edge number d, renumbered-edge number (twin d), renumbered-end number d, renumbered-end number (twin d))
    | inr b ↦ omega (arith, a.0, a.1, b.0, b.1, halves, renumbered-edge number d, renumbered-edge number (twin d), renumbered-end number d, renumbered-end number (twin d))
  ]
]
  where
    halves : number (twin d / 2) ≡ number (d / 2)
    halves = ap number (twin-edge d)

-- the first dart of an edge goes to the first, the second to the second
renumbered-first : (number : ℕ → ℕ) (i : ℕ) → renumbered number (2 * i) ≡ 2 * number i
renumbered-first number i =
    let half : number ((2 * i) / 2) ≡ number i = ap number (omega arith) in
    omega (arith, half, renumbered-edge number (2 * i), renumbered-end number (2 * i))

renumbered-second : (number : ℕ → ℕ) (i : ℕ) → renumbered number (2 * i + 1) ≡ 2 * number i + 1
renumbered-second number i =
    let half : number ((2 * i + 1) / 2) ≡ number i = ap number (omega arith) in
    omega (arith, half, renumbered-edge number (2 * i + 1), renumbered-end number (2 * i + 1))

-- a subgraph, and a rotation system of each, the inner one left of the outer one
module _ (part g : Multigraph) (edge vertex : ℕ → ℕ) (outer inner : List (List ℕ)) (part_ok : IsGraph part) (ok : IsGraph g) (sub : IsSubgraph part g edge vertex)
    (s : IsRotationSystem g outer) (inner_s : IsRotationSystem part inner) (left : IsRestriction part edge vertex outer inner) where
  abbrev live : ℕ → Bool
  live d = is_kept part edge (d / 2)

  -- the dart of an edge from a vertex goes to that of the edge from the vertex
  into-dart_from : (v i : ℕ) → v < part.vertex_count → i < edge_count part → renumbered edge (dart_from part v i) ≡ dart_from g (vertex v) (edge i)
  into-dart_from v i l k = elim (cases_eq (ends_of part i).0 v) [
    | inl q ↦ ap (renumbered edge) (dart_from-first part v i q) ∙ renumbered-first edge i ∙ sym (dart_from-first g (vertex v) (edge i) (sub.first_ends i k ∙ ap vertex q))
    | inr n ↦ ap (renumbered edge) (dart_from-second part v i n) ∙ renumbered-second edge i
        ∙ sym (dart_from-second g (vertex v) (edge i) (λ q. n (sub.vertices_once (ends_of part i).0 v (part_ok.first_in i k) l (sym (sub.first_ends i k) ∙ q))))
  ]

  -- the edges round a vertex of the part are edges of the part
  inner-edge : (v i : ℕ) → v < part.vertex_count → is_member i (order_at inner v) ≡ true → i < edge_count part
  inner-edge v i l m = member-edge part v i (member-incident part inner v i inner_s l m)

  -- the edges of the part at a vertex stand round it in g, and are kept
  inner-outer : (v i : ℕ) → v < part.vertex_count → is_member i (order_at inner v) ≡ true → (is_member (edge i) (order_at outer (vertex v)) ≡ true) × (is_kept part edge (edge i) ≡ true)
  inner-outer v i l m = member-filter_parts (is_kept part edge) (order_at outer (vertex v)) (edge i)
      (sym (IsTurn-member (filter (is_kept part edge) (order_at outer (vertex v))) (map edge (order_at inner v)) (edge i) (left v l)) ∙ member-map edge (order_at inner v) i m)

  -- what follows an edge of the part among the kept ones is what follows it in the part
  inner-successor : (v i : ℕ) → v < part.vertex_count → is_member i (order_at inner v) ≡ true → successor (filter (is_kept part edge) (order_at outer (vertex v))) (edge i) ≡ edge (successor (order_at inner v) i)
  inner-successor v i l m =
      sym (IsTurn-successor (filter (is_kept part edge) (order_at outer (vertex v))) (map edge (order_at inner v)) (edge i) (left v l)
      (distinct-filter (is_kept part edge) (order_at outer (vertex v)) (order-distinct g outer (vertex v) s (sub.vertices v l))))
      ∙ successor-map edge (order_at inner v) i (λ z n. sub.edges_once z i (inner-edge v z l n) (inner-edge v i l m))

  -- steps round the vertices of the part are steps of the restricted map
  into-step : (d : ℕ) → d < dart_count part → renumbered edge (dart_after part inner d) ≡ restricted (dart_count g) live (dart_after g outer) (renumbered edge d)
  into-step d l =
      into-dart_from (tail part d) (successor (order_at inner (tail part d)) (d / 2)) at (inner-edge (tail part d) (successor (order_at inner (tail part d)) (d / 2)) at (successor-member (order_at inner (tail part d)) (d / 2) m))
      ∙ ap (dart_from g (vertex (tail part d))) (sym (inner-successor (tail part d) (d / 2) at m))
      ∙ sym (restricted-order g outer ok s (is_kept part edge) (vertex (tail part d)) (edge (d / 2)) (sub.vertices (tail part d) at) (inner-outer (tail part d) (d / 2) at m).0 (inner-outer (tail part d) (d / 2) at m).1)
      ∙ ap (restricted (dart_count g) live (dart_after g outer)) (sym here)
    where
      at : tail part d < part.vertex_count
      at = tail-in part d part_ok l

      m : is_member (d / 2) (order_at inner (tail part d)) ≡ true
      m = tail-order part inner d part_ok inner_s l

      here : renumbered edge d ≡ dart_from g (vertex (tail part d)) (edge (d / 2))
      here = ap (renumbered edge) (sym (dart_from-of_dart part d part_ok l)) ∙ into-dart_from (tail part d) (d / 2) at (dart-edge part d l)

  -- the map of the part is the restricted map under other numbers
  pub part-renumbering : IsRenumbering (edge_count part) (dart_after part inner) (edge_count g) (restricted (dart_count g) live (dart_after g outer)) live (renumbered edge) (renumbered (place part edge))
  part-renumbering = record {
    whole_edges = λ d l. ap (is_kept part edge) (twin-edge d);
    others_alone = λ d l h. restricted-alone (dart_count g) live (dart_after g outer) d h;
    darts = λ d l. renumbered-below edge d (edge_count g) (sub.edges (d / 2) (dart-edge part d l));
    lives = λ d l. ap (is_kept part edge) (renumbered-edge edge d) ∙ edge-kept part edge (d / 2) (dart-edge part d l);
    darts_back = λ d l h. renumbered-below (place part edge) d (edge_count part) (place-edge part edge (d / 2) h).0;
    into_back = λ d l h. renumbered-back edge (place part edge) d (place-edge part edge (d / 2) h).1;
    back_into = λ d l. renumbered-back (place part edge) edge d (edge-place part g edge vertex sub (d / 2) (dart-edge part d l));
    twins = λ d l. renumbered-twin edge d;
    steps = λ d l. into-step d l;
  }

  -- so it is plane where the rotation system of the whole is
  pub part-plane : IsPlane g outer → IsPlane part inner
  part-plane p = map-plane part inner part_ok inner_s
      (renumber-plane-back (edge_count part) (dart_after part inner) (dart_before part inner) (map-permutes part inner part_ok inner_s)
      (edge_count g) (restricted (dart_count g) live (dart_after g outer)) (restricted (dart_count g) live (dart_before g outer)) (restricted-permutes (dart_count g) live (dart_after g outer) (dart_before g outer) (map-permutes g outer ok s))
      live (renumbered edge) (renumbered (place part edge)) part-renumbering
      (restricted-plane (edge_count g) (dart_after g outer) (dart_before g outer) (map-permutes g outer ok s) (plane-map g outer ok s p) live))
