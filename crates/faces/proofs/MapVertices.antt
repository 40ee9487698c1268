-- The vertices and components of the map of darts are those of the graph.
use Rattle.std.proofs.Common.{◌≡◌, ℕ, ◌+◌, ◌*◌, ◌/◌, ◌<◌, true, ◌==◌, List, refl, sym, ap, ◌∙◌, subst, arith}
use Rattle.std.proofs.lemmas.Bool.{eq-eqb, eqb-true}
use Rattle.std.proofs.lemmas.List.Elements.{All-from_get_or}
use Rattle.permutations.specs.Count.{some, least}
use Rattle.permutations.specs.Members.{is_member}
use Rattle.permutations.specs.Relation.{IsEquivalence, connected}
use Rattle.permutations.specs.Cyclic.{successor}
use Rattle.permutations.proofs.Search.{some-from, least-below, least-passes}
use Rattle.permutations.proofs.Relation.{same-tests, kernel-equivalence, connected-equivalence, connected-least}
use Rattle.permutations.proofs.Orbits.{orbit-equivalence, orbit-least, orbit-step}
use Rattle.permutations.proofs.Chains.{chain}
use Rattle.permutations.proofs.Renaming.{equivalence-through}
use Rattle.multigraph.specs.Graph.{Multigraph, IsGraph, edge_count, ends_of, is_end, other_end}
use Rattle.rotations.specs.Rotation.{order_at, IsRotationSystem}
use Rattle.rotations.proofs.Membership.{member-edge, member-end}
use Rattle.dart_maps.specs.Map.{twin, same_vertex, same_component}
use Rattle.dart_maps.proofs.Darts.{twin-even}
use Rattle.dart_maps.proofs.Components.{component-equivalence, component-least, component-twin, vertex-component}
use Rattle.faces.specs.Euler.{tail, dart_from, dart_count}
use Rattle.faces.specs.Maps.{dart_after}
use Rattle.faces.proofs.DartLemmas.{dart-edge, tail-end, tail-first, tail-second, dart_from-below, dart_from-of_dart, order-distinct, order-member, member-incident}
use Rattle.faces.proofs.Neighbours.{edge-neighbour, neighbour-connected}
use Rattle.faces.proofs.MapSteps.{tail-in, tail-twin, after-tail, after-dart_from}

-- darts of one vertex of the map leave one vertex of the graph
pub vertex-tail : (g : Multigraph) (r : List (List ℕ)) → IsGraph g → IsRotationSystem g r → (c d : ℕ) → same_vertex (edge_count g) (dart_after g r) c d ≡ true → tail g c ≡ tail g d
vertex-tail g r ok s c d t = eqb-true (tail g c) (tail g d) (orbit-least (dart_count g) (dart_after g r) (λ x y. tail g x == tail g y) (kernel-equivalence (tail g))
    (λ z l. eq-eqb (tail g z) (tail g (dart_after g r z)) (sym (after-tail g r z ok s l))) c d t)

-- a dart's edge stands in the cyclic order of the vertex that it leaves
pub tail-order : (g : Multigraph) (r : List (List ℕ)) (d : ℕ) → IsGraph g → IsRotationSystem g r → d < dart_count g → is_member (d / 2) (order_at r (tail g d)) ≡ true
tail-order g r d ok s l = order-member g r (tail g d) (d / 2) s (tail-in g d ok l) (dart-edge g d l) (tail-end g d)

-- the darts of the edges round a vertex are of one vertex of the map
pub order-vertex : (g : Multigraph) (r : List (List ℕ)) (v : ℕ) → IsRotationSystem g r → v < g.vertex_count → (e f : ℕ) → is_member e (order_at r v) ≡ true → is_member f (order_at r v) ≡ true
    → same_vertex (edge_count g) (dart_after g r) (dart_from g v e) (dart_from g v f) ≡ true
order-vertex g r v s l = chain (λ e f. same_vertex (edge_count g) (dart_after g r) (dart_from g v e) (dart_from g v f))
    (equivalence-through (same_vertex (edge_count g) (dart_after g r)) (dart_from g v) (orbit-equivalence (dart_count g) (dart_after g r)))
    (order_at r v) (order-distinct g r v s l) step
  where
    step : (e : ℕ) → is_member e (order_at r v) ≡ true → same_vertex (edge_count g) (dart_after g r) (dart_from g v e) (dart_from g v (successor (order_at r v) e)) ≡ true
    step e m =
        let i = member-incident g r v e s l m in
        subst (λ z. same_vertex (edge_count g) (dart_after g r) (dart_from g v e) z ≡ true) (after-dart_from g r v e (member-end g v e i))
        (orbit-step (dart_count g) (dart_after g r) (dart_from g v e) (dart_from-below g v e (member-edge g v e i)))

-- darts that leave one vertex of the graph are of one vertex of the map
pub tail-vertex : (g : Multigraph) (r : List (List ℕ)) → IsGraph g → IsRotationSystem g r → (c d : ℕ) → c < dart_count g → d < dart_count g → tail g c ≡ tail g d → same_vertex (edge_count g) (dart_after g r) c d ≡ true
tail-vertex g r ok s c d l k e =
    let there : dart_from g (tail g c) (d / 2) ≡ d = ap (λ v. dart_from g v (d / 2)) e ∙ dart_from-of_dart g d ok k in
    let member : is_member (d / 2) (order_at r (tail g c)) ≡ true = ap (λ v. is_member (d / 2) (order_at r v)) e ∙ tail-order g r d ok s k in
    subst (λ z. same_vertex (edge_count g) (dart_after g r) c z ≡ true) there
    (subst (λ z. same_vertex (edge_count g) (dart_after g r) z (dart_from g (tail g c) (d / 2)) ≡ true) (dart_from-of_dart g c ok l)
    (order-vertex g r (tail g c) s (tail-in g c ok l) (c / 2) (d / 2) (tail-order g r c ok s l) member))

-- so the vertices of the map are the vertices of the graph that have edges
pub map-vertex : (g : Multigraph) (r : List (List ℕ)) → IsGraph g → IsRotationSystem g r → (c d : ℕ) → c < dart_count g → d < dart_count g → same_vertex (edge_count g) (dart_after g r) c d ≡ (tail g c == tail g d)
map-vertex g r ok s c d l k = same-tests (same_vertex (edge_count g) (dart_after g r) c d) (tail g c == tail g d)
    (λ t. eq-eqb (tail g c) (tail g d) (vertex-tail g r ok s c d t))
    (λ t. tail-vertex g r ok s c d l k (eqb-true (tail g c) (tail g d) t))

-- the two ends of a dart's edge are connected
twin-connected : (g : Multigraph) (d : ℕ) → IsGraph g → d < dart_count g → connected g.ends (tail g d) (tail g (twin d)) ≡ true
twin-connected g d ok l = subst (λ v. connected g.ends (tail g d) v ≡ true) (sym (tail-twin g d ok l)) (across (tail g d) (d / 2) (dart-edge g d l) (tail-end g d))
  where
    across : (v e : ℕ) → e < edge_count g → is_end g v e ≡ true → connected g.ends v (other_end g e v) ≡ true
    across v e m h = neighbour-connected g v (other_end g e v) ok (edge-neighbour g v e (other_end g e v) m h refl)

-- darts of one component of the map leave connected vertices
pub component-tail : (g : Multigraph) (r : List (List ℕ)) → IsGraph g → IsRotationSystem g r → (c d : ℕ) → same_component (edge_count g) (dart_after g r) c d ≡ true → connected g.ends (tail g c) (tail g d) ≡ true
component-tail g r ok s c d t = component-least (edge_count g) (dart_after g r) (λ x y. connected g.ends (tail g x) (tail g y)) (equivalence-through (connected g.ends) (tail g) (connected-equivalence g.ends))
    (λ z l. subst (λ v. connected g.ends (tail g z) v ≡ true) (sym (after-tail g r z ok s l)) ((connected-equivalence g.ends).reflexive (tail g z)))
    (λ z l. twin-connected g z ok l) c d t

-- the first dart that leaves v
first_dart : Multigraph → ℕ → ℕ
first_dart g v = least (dart_count g) (λ d. tail g d == v)

-- a dart is of one component with the first dart of the vertex that it leaves
first_dart-component : (g : Multigraph) (r : List (List ℕ)) → IsGraph g → IsRotationSystem g r → (v d : ℕ) → d < dart_count g → tail g d ≡ v → same_component (edge_count g) (dart_after g r) (first_dart g v) d ≡ true
unfolding first_dart
first_dart-component g r ok s v d l e =
    let found : some (dart_count g) (λ c. tail g c == v) ≡ true = some-from (dart_count g) (λ c. tail g c == v) d l (eq-eqb (tail g d) v e) in
    let leaves : tail g (first_dart g v) ≡ v = eqb-true (tail g (first_dart g v)) v (least-passes (dart_count g) (λ c. tail g c == v) found) in
    vertex-component (edge_count g) (dart_after g r) (first_dart g v) d
    (tail-vertex g r ok s (first_dart g v) d (least-below (dart_count g) (λ c. tail g c == v) found) l (leaves ∙ sym e))

-- darts that leave connected vertices are of one component
pub tail-component : (g : Multigraph) (r : List (List ℕ)) → IsGraph g → IsRotationSystem g r → (c d : ℕ) → c < dart_count g → d < dart_count g → connected g.ends (tail g c) (tail g d) ≡ true → same_component (edge_count g) (dart_after g r) c d ≡ true
tail-component g r ok s c d l k t =
    k_is.transitive c (first_dart g (tail g d)) d
    (k_is.transitive c (first_dart g (tail g c)) (first_dart g (tail g d)) (k_is.symmetric (first_dart g (tail g c)) c (first_dart-component g r ok s (tail g c) c l refl)) firsts)
    (first_dart-component g r ok s (tail g d) d k refl)
  where
    k_is : IsEquivalence (same_component (edge_count g) (dart_after g r))
    k_is = component-equivalence (edge_count g) (dart_after g r)

    along : (e : ℕ) → e < edge_count g → same_component (edge_count g) (dart_after g r) (first_dart g (ends_of g e).0) (first_dart g (ends_of g e).1) ≡ true
    along e m =
        let one : same_component (edge_count g) (dart_after g r) (first_dart g (ends_of g e).0) (2 * e) ≡ true = first_dart-component g r ok s (ends_of g e).0 (2 * e) (omega arith) (tail-first g e) in
        let two : same_component (edge_count g) (dart_after g r) (first_dart g (ends_of g e).1) (2 * e + 1) ≡ true = first_dart-component g r ok s (ends_of g e).1 (2 * e + 1) (omega arith) (tail-second g e) in
        let over : same_component (edge_count g) (dart_after g r) (2 * e) (2 * e + 1) ≡ true = subst (λ z. same_component (edge_count g) (dart_after g r) (2 * e) z ≡ true) (twin-even (2 * e) (omega arith)) (component-twin (edge_count g) (dart_after g r) (2 * e) (omega arith)) in
        k_is.transitive (first_dart g (ends_of g e).0) (2 * e + 1) (first_dart g (ends_of g e).1)
        (k_is.transitive (first_dart g (ends_of g e).0) (2 * e) (2 * e + 1) one over)
        (k_is.symmetric (first_dart g (ends_of g e).1) (2 * e + 1) two)

    firsts : same_component (edge_count g) (dart_after g r) (first_dart g (tail g c)) (first_dart g (tail g d)) ≡ true
    firsts = connected-least g.ends (λ u v. same_component (edge_count g) (dart_after g r) (first_dart g u) (first_dart g v))
        (equivalence-through (same_component (edge_count g) (dart_after g r)) (first_dart g) k_is)
        (All-from_get_or (λ link. same_component (edge_count g) (dart_after g r) (first_dart g link.0) (first_dart g link.1) ≡ true) g.ends (0, 0) along)
        (tail g c) (tail g d) t

-- so the components of the map are the components of the graph that have edges
pub map-component : (g : Multigraph) (r : List (List ℕ)) → IsGraph g → IsRotationSystem g r → (c d : ℕ) → c < dart_count g → d < dart_count g → same_component (edge_count g) (dart_after g r) c d ≡ connected g.ends (tail g c) (tail g d)
map-component g r ok s c d l k = same-tests (same_component (edge_count g) (dart_after g r) c d) (connected g.ends (tail g c) (tail g d))
    (component-tail g r ok s c d)
    (tail-component g r ok s c d l k)
