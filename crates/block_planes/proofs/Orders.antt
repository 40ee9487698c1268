-- The order of edges around a vertex, and that of their darts in the map.
use Rattle.std.proofs.Common.{◌≡◌, ℕ, ◌/◌, ◌<◌, true, List, map, filter, sym, ap, ◌∙◌, subst}
use Rattle.permutations.specs.Members.{is_member}
use Rattle.permutations.specs.Cyclic.{IsTurn, FollowsAround, successor, turned}
use Rattle.permutations.specs.Ring.{ring}
use Rattle.permutations.proofs.Relation.{same-tests}
use Rattle.permutations.proofs.Filter.{filter-ext}
use Rattle.permutations.proofs.Mapped.{member-map, map-member, distinct-map}
use Rattle.permutations.proofs.Turned.{IsTurn-sym, IsTurn-map, turned-turn}
use Rattle.permutations.proofs.CyclicOrder.{around-member, around-turn}
use Rattle.permutations.proofs.Rings.{ring-from_list}
use Rattle.multigraph.specs.Graph.{Multigraph, IsGraph}
use Rattle.rotations.specs.Rotation.{order_at, IsRotationSystem}
use Rattle.rotations.proofs.Membership.{member-end}
use Rattle.faces.specs.Euler.{tail, dart_from, dart_count}
use Rattle.faces.specs.Maps.{dart_after, dart_before}
use Rattle.faces.proofs.DartLemmas.{dart_from-edge, dart_from-of_dart, order-distinct, member-incident}
use Rattle.faces.proofs.MapSteps.{tail-in, map-permutes, after-dart_from}
use Rattle.faces.proofs.MapVertices.{tail-order}
use Rattle.faces.proofs.MapLists.{successor-map, filter-map, map-back}
use Rattle.faces.proofs.MapRestricted.{dart_from-once}

-- the edge of a dart
abbrev edge_of : ℕ → ℕ
edge_of d = d / 2

-- the darts from a vertex, in the order of their edges
abbrev pub darts_around : Multigraph → List (List ℕ) → ℕ → List ℕ
darts_around g r w = map (dart_from g w) (order_at r w)

-- the ring of a dart is this list, from the dart on
ring-darts : (g : Multigraph) (r : List (List ℕ)) → IsGraph g → IsRotationSystem g r → (d : ℕ) → d < dart_count g → ring (dart_count g) (dart_after g r) d ≡ turned (map (dart_from g (tail g d)) (order_at r (tail g d))) d
ring-darts g r ok s d l = ring-from_list (dart_count g) (dart_after g r) (dart_before g r) (map-permutes g r ok s) (darts_around g r w)
    (distinct-map (dart_from g w) (order_at r w) (λ y z _ _. dart_from-once g w y z) (order-distinct g r w s (tail-in g d ok l)))
    follows d l
    (subst (λ z. is_member z (darts_around g r w) ≡ true) (dart_from-of_dart g d ok l) (member-map (dart_from g w) (order_at r w) (d / 2) (tail-order g r d ok s l)))
  where
    w : ℕ
    w = tail g d

    follows : (z : ℕ) → is_member z (darts_around g r w) ≡ true → successor (darts_around g r w) z ≡ dart_after g r z
    follows z n = let y = map-member (dart_from g w) (order_at r w) z n in
        subst (λ k. successor (darts_around g r w) k ≡ dart_after g r k) y.2
        (successor-map (dart_from g w) (order_at r w) y.0 (λ x _. dart_from-once g w x y.0)
        ∙ sym (after-dart_from g r w y.0 (member-end g w y.0 (member-incident g r w y.0 s (tail-in g d ok l) y.1))))

-- darts follow each other in this order around a vertex: so do their edges
pub darts-follow : (g : Multigraph) (r : List (List ℕ)) → IsGraph g → IsRotationSystem g r → (d : ℕ) (k : List ℕ) → d < dart_count g → FollowsAround (ring (dart_count g) (dart_after g r) d) k → FollowsAround (order_at r (tail g d)) (map (λ z. z / 2) k)
darts-follow g r ok s d k l o = subst (λ v. IsTurn v (map edge_of k)) is (IsTurn-map edge_of (filter (λ z. is_member z k) M) k around)
  where
    w : ℕ
    w = tail g d

    M : List ℕ
    M = darts_around g r (tail g d)

    around : FollowsAround M k
    around = around-turn (turned M d) M k (IsTurn-sym M (turned M d) (turned-turn M d)) (subst (λ v. FollowsAround v k) (ring-darts g r ok s d l) o)

    same : (z : ℕ) → is_member z (order_at r w) ≡ true → is_member (dart_from g w z) k ≡ is_member z (map edge_of k)
    same z m = same-tests (is_member (dart_from g w z) k) (is_member z (map edge_of k))
        (λ t. subst (λ v. is_member v (map edge_of k) ≡ true) (dart_from-edge g w z) (member-map edge_of k (dart_from g w z) t))
        (λ t. let y = map-member edge_of k z t in
        let e = map-member (dart_from g w) (order_at r w) y.0 (around-member M k y.0 around y.1) in
        let q : e.0 ≡ z = sym (dart_from-edge g w e.0) ∙ ap edge_of e.2 ∙ y.2 in
        subst (λ v. is_member v k ≡ true) (sym e.2 ∙ ap (dart_from g w) q) y.1)

    is : map edge_of (filter (λ z. is_member z k) M) ≡ filter (λ z. is_member z (map edge_of k)) (order_at r w)
    is = ap (map edge_of) (filter-map (dart_from g w) (λ z. is_member z k) (order_at r w))
        ∙ map-back edge_of (dart_from g w) (filter (λ z. is_member (dart_from g w z) k) (order_at r w)) (λ z m. dart_from-edge g w z)
        ∙ filter-ext (λ z. is_member (dart_from g w z) k) (λ z. is_member z (map edge_of k)) (order_at r w) same

-- edges follow each other in this order around a vertex: so do their darts from it
pub edges-follow : (g : Multigraph) (r : List (List ℕ)) → IsGraph g → IsRotationSystem g r → (d w : ℕ) (k : List ℕ) → d < dart_count g → tail g d ≡ w → FollowsAround (order_at r w) k → FollowsAround (ring (dart_count g) (dart_after g r) d) (map (dart_from g w) k)
edges-follow g r ok s d w k l q o = subst (λ v. FollowsAround v (map D k)) (sym ring-is) (around-turn M (turned M d) (map D k) (turned-turn M d) around)
  where
    D : ℕ → ℕ
    D = dart_from g w

    M : List ℕ
    M = map (dart_from g w) (order_at r w)

    ring-is : ring (dart_count g) (dart_after g r) d ≡ turned M d
    ring-is = ring-darts g r ok s d l ∙ ap (λ v. turned (map (dart_from g v) (order_at r v)) d) q

    same : (z : ℕ) → is_member z (order_at r w) ≡ true → is_member z k ≡ is_member (D z) (map D k)
    same z m = same-tests (is_member z k) (is_member (D z) (map D k))
        (λ t. member-map D k z t)
        (λ t. let y = map-member D k (D z) t in subst (λ v. is_member v k ≡ true) (dart_from-once g w y.0 z y.2) y.1)

    around : FollowsAround M (map D k)
    around = subst (λ v. IsTurn v (map D k))
        (ap (map D) (filter-ext (λ z. is_member z k) (λ z. is_member (D z) (map D k)) (order_at r w) same) ∙ sym (filter-map D (λ z. is_member z (map D k)) (order_at r w)))
        (IsTurn-map D (filter (λ z. is_member z k) (order_at r w)) k o)
