-- A map whose vertices are those of a graph is the map of darts of one rotation system.
use Rattle.std.proofs.Common.{◌≡◌, ℕ, ◌/◌, ◌<◌, inl, inr, true, false, cond, ◌==◌, List, [], ◌∷◌, map, length, get_or, refl, sym, ap, ap₂, ◌∙◌, subst, arith}
use Rattle.std.proofs.lemmas.Bool.{cases_Bool, eq-eqb, eqb-true, both_ways}
use Rattle.std.proofs.lemmas.List.{length-map, get_or-map, get_or_default, same_lists}
use Rattle.permutations.specs.Members.{is_member, is_distinct}
use Rattle.permutations.specs.Cyclic.{first_or, successor, from_least}
use Rattle.permutations.specs.Ring.{ring}
use Rattle.permutations.proofs.Members.{member-head}
use Rattle.permutations.proofs.Relation.{same-tests}
use Rattle.permutations.proofs.Arrangements.{permutation-member, permutation-from_members}
use Rattle.permutations.proofs.Orbits.{orbit-step}
use Rattle.permutations.proofs.Successor.{successor-absent}
use Rattle.permutations.proofs.CyclicSame.{same-lists}
use Rattle.permutations.proofs.NormalForm.{from_least-member, from_least-distinct, from_least-successor}
use Rattle.permutations.proofs.Rings.{ring-distinct, ring-below, ring-successor, ring-member}
use Rattle.permutations.proofs.Mapped.{map-member, member-map, distinct-map}
use Rattle.multigraph.specs.Graph.{Multigraph, IsGraph, edge_count, is_end, numbers_below, incident_edges}
use Rattle.multigraph.proofs.Below.{length-numbers_below, get_or-numbers_below}
use Rattle.rotations.specs.Rotation.{order_at, IsCyclicOrder, IsRotationSystem}
use Rattle.rotations.proofs.Membership.{incident-distinct, incident-member, member-edge, member-end, incident-least}
use Rattle.dart_maps.specs.Map.{IsMap, same_vertex}
use Rattle.faces.specs.Euler.{tail, dart_from, dart_count, is_isolated}
use Rattle.faces.specs.Maps.{dart_after}
use Rattle.faces.proofs.DartLemmas.{dart-edge, tail-end, dart_from-edge, dart_from-below, dart_from-tail, dart_from-of_dart, order-distinct, member-incident}
use Rattle.faces.proofs.MapSteps.{tail-in, after-dart_from}
use Rattle.faces.proofs.MapCounts.{end-not_isolated}
use Rattle.faces.proofs.MapLists.{successor-map, first-same}
use Rattle.faces.proofs.MapRestricted.{dart_from-once}
use Rattle.faces.proofs.MapPartOrders.{from_least-least}

-- a list without members
no-members : (l : List ℕ) → (length l == 0) ≡ true → l ≡ []
no-members [] h = refl
no-members (x ∷ xs) h =
    let e : length (x ∷ xs) ≡ 0 = eqb-true (length (x ∷ xs)) 0 h in
    absurd (omega (arith, e))

-- the first of a list with members
first-member : (l : List ℕ) → (length l == 0) ≡ false → is_member (first_or 0 l) l ≡ true
first-member [] h = absurd (both_ways true h refl)
first-member (x ∷ xs) h = member-head x xs

-- the empty cyclic order
no-order : IsCyclicOrder [] []
no-order = record { arranged = permutation-from_members [] [] refl refl (λ z. refl); least_first = refl }

-- a map in which darts are of one vertex exactly where they leave one vertex
module _ (g : Multigraph) (ok : IsGraph g) (f b : ℕ → ℕ) (p : IsMap (edge_count g) f b) (same : (c d : ℕ) → c < dart_count g → d < dart_count g → same_vertex (edge_count g) f c d ≡ (tail g c == tail g d)) where
  -- the dart of the first edge at v, the darts of v from it on, and their edges
  abbrev first_at : ℕ → ℕ
  first_at v = dart_from g v (first_or 0 (incident_edges g v))

  abbrev darts_round : ℕ → List ℕ
  darts_round v = ring (dart_count g) f (first_at v)

  abbrev edges_round : ℕ → List ℕ
  edges_round v = map (λ d. d / 2) (darts_round v)

  -- the next dart leaves the same vertex
  step-tail : (d : ℕ) → d < dart_count g → tail g (f d) ≡ tail g d
  step-tail d l = sym (eqb-true (tail g d) (tail g (f d)) (sym (same d (f d) l (p.forth d l)) ∙ orbit-step (dart_count g) f d l))

  -- a vertex that is not isolated
  module _ (v : ℕ) (h : is_isolated g v ≡ false) where
    first-incident : is_member (first_or 0 (incident_edges g v)) (incident_edges g v) ≡ true
    first-incident = first-member (incident_edges g v) h

    first-below : first_at v < dart_count g
    first-below = dart_from-below g v (first_or 0 (incident_edges g v)) (member-edge g v (first_or 0 (incident_edges g v)) first-incident)

    first-tail : tail g (first_at v) ≡ v
    first-tail = dart_from-tail g v (first_or 0 (incident_edges g v)) (member-end g v (first_or 0 (incident_edges g v)) first-incident)

    -- the darts round it are those that leave it
    round-below : (d : ℕ) → is_member d (darts_round v) ≡ true → d < dart_count g
    round-below d m = ring-below (dart_count g) f b p (first_at v) first-below d m

    round-tail : (d : ℕ) → is_member d (darts_round v) ≡ true → tail g d ≡ v
    round-tail d m = sym (eqb-true (tail g (first_at v)) (tail g d) (sym (same (first_at v) d first-below (round-below d m)) ∙ sym (ring-member (dart_count g) f b p (first_at v) first-below d) ∙ m)) ∙ first-tail

    round-has : (d : ℕ) → d < dart_count g → tail g d ≡ v → is_member d (darts_round v) ≡ true
    round-has d l e = ring-member (dart_count g) f b p (first_at v) first-below d ∙ same (first_at v) d first-below l ∙ eq-eqb (tail g (first_at v)) (tail g d) (first-tail ∙ sym e)

    -- different ones have different edges
    round-once : (y z : ℕ) → is_member y (darts_round v) ≡ true → is_member z (darts_round v) ≡ true → y / 2 ≡ z / 2 → y ≡ z
    round-once y z m n q = sym (dart_from-of_dart g y ok (round-below y m)) ∙ ap₂ (dart_from g) (round-tail y m ∙ sym (round-tail z n)) q ∙ dart_from-of_dart g z ok (round-below z n)

    round-distinct : is_distinct (edges_round v) ≡ true
    round-distinct = distinct-map (λ d. d / 2) (darts_round v) round-once (ring-distinct (dart_count g) f b p (first_at v) first-below)

    -- their edges are the edges at the vertex
    incident-round : (e : ℕ) → is_member e (incident_edges g v) ≡ true → is_member e (edges_round v) ≡ true
    incident-round e m = subst (λ z. is_member z (edges_round v) ≡ true) (dart_from-edge g v e)
        (member-map (λ d. d / 2) (darts_round v) (dart_from g v e) (round-has (dart_from g v e) (dart_from-below g v e (member-edge g v e m)) (dart_from-tail g v e (member-end g v e m))))

    round-incident : (e : ℕ) → is_member e (edges_round v) ≡ true → is_member e (incident_edges g v) ≡ true
    round-incident e m =
        let w = map-member (λ d. d / 2) (darts_round v) e m in
        subst (λ z. is_member z (incident_edges g v) ≡ true) w.2
        (incident-member g v (w.0 / 2) (dart-edge g w.0 (round-below w.0 w.1)) (subst (λ u. is_end g u (w.0 / 2) ≡ true) (round-tail w.0 w.1) (tail-end g w.0)))

    round-members : (z : ℕ) → is_member z (incident_edges g v) ≡ is_member z (from_least (edges_round v))
    round-members z = same-tests (is_member z (incident_edges g v)) (is_member z (edges_round v)) (incident-round z) (round-incident z) ∙ sym (from_least-member (edges_round v) z)

    -- so they are a cyclic order of these
    round-order : IsCyclicOrder (incident_edges g v) (from_least (edges_round v))
    round-order = record {
      arranged = permutation-from_members (incident_edges g v) (from_least (edges_round v)) (incident-distinct g v) (from_least-distinct (edges_round v) round-distinct) round-members;
      least_first = sym (first-same (incident_edges g v) (from_least (edges_round v)) round-members (incident-least g v) (from_least-least (edges_round v)));
    }

    -- in which a dart's edge is followed by that of the next dart
    round-successor : (d : ℕ) → d < dart_count g → tail g d ≡ v → successor (from_least (edges_round v)) (d / 2) ≡ f d / 2
    round-successor d l e =
        from_least-successor (edges_round v) (d / 2) round-distinct
        ∙ successor-map (λ c. c / 2) (darts_round v) d (λ z m q. round-once z d m (round-has d l e) q)
        ∙ ap (λ c. c / 2) (ring-successor (dart_count g) f b p (first_at v) first-below d (round-has d l e))

  -- the cyclic order of a vertex, empty where it is isolated; and all of them
  abbrev order_of : ℕ → List ℕ
  order_of v = cond (is_isolated g v) [] (from_least (edges_round v))

  abbrev orders_of : List (List ℕ)
  orders_of = map order_of (numbers_below g.vertex_count)

  orders_of-at : (v : ℕ) → v < g.vertex_count → order_at orders_of v ≡ order_of v
  orders_of-at v l =
      let inside : v < length (numbers_below g.vertex_count) = omega (arith, l, length-numbers_below g.vertex_count) in
      get_or-map order_of (numbers_below g.vertex_count) v 0 [] inside ∙ ap order_of (get_or-numbers_below g.vertex_count v 0 l)

  filled : (v : ℕ) → is_isolated g v ≡ false → order_of v ≡ from_least (edges_round v)
  filled v h = ap (λ t. cond t [] (from_least (edges_round v))) h

  empty : (v : ℕ) → is_isolated g v ≡ true → order_of v ≡ []
  empty v h = ap (λ t. cond t [] (from_least (edges_round v))) h

  order_of-order : (v : ℕ) → IsCyclicOrder (incident_edges g v) (order_of v)
  order_of-order v = elim (cases_Bool (is_isolated g v)) [
    | inl t ↦ subst (IsCyclicOrder (incident_edges g v)) (sym (empty v t)) (subst (λ k. IsCyclicOrder k []) (sym (no-members (incident_edges g v) t)) no-order)
    | inr t ↦ subst (IsCyclicOrder (incident_edges g v)) (sym (filled v t)) (round-order v t)
  ]

  orders_of-system : IsRotationSystem g orders_of
  orders_of-system = record {
    vertices = length-map (numbers_below g.vertex_count) order_of ∙ length-numbers_below g.vertex_count;
    orders = λ v l. subst (IsCyclicOrder (incident_edges g v)) (sym (orders_of-at v l)) (order_of-order v);
  }

  orders_of-after : (d : ℕ) → d < dart_count g → dart_after g orders_of d ≡ f d
  orders_of-after d l =
      let h : is_isolated g (tail g d) ≡ false = end-not_isolated g (tail g d) (d / 2) (dart-edge g d l) (tail-end g d) in
      ap (λ k. dart_from g (tail g d) (successor k (d / 2))) (orders_of-at (tail g d) (tail-in g d ok l) ∙ filled (tail g d) h)
      ∙ ap (dart_from g (tail g d)) (round-successor (tail g d) h d l refl)
      ∙ ap (λ v. dart_from g v (f d / 2)) (sym (step-tail d l))
      ∙ dart_from-of_dart g (f d) ok (p.forth d l)

  -- so it is the map of a rotation system
  pub map-orders : (r : List (List ℕ)) × IsRotationSystem g r × ((d : ℕ) → d < dart_count g → dart_after g r d ≡ f d)
  map-orders = (orders_of, orders_of-system, orders_of-after)

-- rotation systems with one map are the same
pub orders-told : (g : Multigraph) (r q : List (List ℕ)) → IsRotationSystem g r → IsRotationSystem g q → ((d : ℕ) → d < dart_count g → dart_after g r d ≡ dart_after g q d) → r ≡ q
orders-told g r q s t h = same_lists r q (s.vertices ∙ sym t.vertices) each
  where
    at : (v : ℕ) → v < g.vertex_count → order_at r v ≡ order_at q v
    at v l = same-lists (order_at r v) (order_at q v) (order-distinct g r v s l) (order-distinct g q v t l) ((s.orders v l).least_first ∙ sym (t.orders v l).least_first) members successors
      where
        members : (z : ℕ) → is_member z (order_at r v) ≡ is_member z (order_at q v)
        members z = permutation-member (incident_edges g v) (order_at r v) z (s.orders v l).arranged ∙ sym (permutation-member (incident_edges g v) (order_at q v) z (t.orders v l).arranged)

        successors : (z : ℕ) → successor (order_at r v) z ≡ successor (order_at q v) z
        successors z = elim (cases_Bool (is_member z (order_at r v))) [
          | inl m ↦
              let i = member-incident g r v z s l m in
              dart_from-once g v (successor (order_at r v) z) (successor (order_at q v) z)
              (sym (after-dart_from g r v z (member-end g v z i)) ∙ h (dart_from g v z) (dart_from-below g v z (member-edge g v z i)) ∙ after-dart_from g q v z (member-end g v z i))
          | inr n ↦ successor-absent (order_at r v) z n ∙ sym (successor-absent (order_at q v) z (sym (members z) ∙ n))
        ]

    each : (v : ℕ) (d : List ℕ) → v < length r → get_or r v d ≡ get_or q v d
    each v d l =
        let below : v < g.vertex_count = subst (λ n. v < n) s.vertices l in
        get_or_default r v d [] l ∙ at v below ∙ sym (get_or_default q v d [] (subst (λ n. v < n) (sym t.vertices) below))
