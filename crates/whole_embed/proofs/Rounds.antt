-- The order of a rotation system of a component around a vertex, in the numbers of the graph.
use Rattle.std.proofs.Common.{◌≡◌, ℕ, ◌<◌, ◌≤◌, inl, inr, true, List, [], ◌∷◌, map, slice_index, IsPermutation, sym, ap, ◌∙◌, subst, arith}
use Rattle.std.proofs.lemmas.Bool.{cases_order}
use Rattle.std.proofs.lemmas.List.{ext_get_or, get_or_default}
use Rattle.permutations.specs.Members.{is_member, is_distinct, place_of}
use Rattle.permutations.specs.Cyclic.{first_or, from_least}
use Rattle.permutations.proofs.Mapped.{map-member, distinct-map}
use Rattle.permutations.proofs.Places.{place-of, place-below, place-holds, place-at}
use Rattle.permutations.proofs.Arrangements.{permutation-member, permutation-distinct, member-at}
use Rattle.permutations.proofs.NormalForm.{written-first}
use Rattle.multigraph.specs.Graph.{Multigraph, edge_count, incident_edges}
use Rattle.multigraph.specs.Part.{GraphPart, IsNumbered, Rises}
use Rattle.multigraph.proofs.Places.{rises-once}
use Rattle.multigraph.proofs.Incident.{incident-edge, incident-rises}
use Rattle.rotations.specs.Rotation.{order_at, IsCyclicOrder, IsRotationSystem}
use Rattle.whole_embed.specs.Around.{outer_at}
use Rattle.whole_embed.proofs.Mapping.{permuted-map, first-map, map-injective}
use Rattle.whole_embed.proofs.Outer.{rises-distinct}

module _ (part : GraphPart) (numbered : IsNumbered part) where
  abbrev g : Multigraph
  g = part.graph

  abbrev edge : ℕ → ℕ
  edge = slice_index part.edges

  -- edges of the part have different numbers
  pub edge-once : (x y : ℕ) → x < edge_count g → y < edge_count g → edge x ≡ edge y → x ≡ y
  edge-once x y a b e = rises-once part.edges numbered.edges_rise x y (omega (arith, a, numbered.edge_each)) (omega (arith, b, numbered.edge_each)) e

  -- and back
  pub edge-place : (x : ℕ) → x < edge_count g → place_of part.edges (edge x) ≡ x
  edge-place x a = place-at part.edges x (rises-distinct part.edges numbered.edges_rise) (omega (arith, a, numbered.edge_each))

  -- the number increases
  pub edge-increases : (x y : ℕ) → x ≤ y → y < edge_count g → edge x ≤ edge y
  edge-increases x y a b = elim (cases_order x y) [
    | inl e ↦ omega (arith, ap edge e)
    | inr (inl l) ↦ let w : edge x < edge y = numbered.edges_rise x y l (omega (arith, b, numbered.edge_each)) in omega (arith, w)
    | inr (inr l) ↦ absurd (omega (arith, a, l))
  ]

  -- a vertex of the part has a number in it
  pub vertex-place : (v : ℕ) → is_member v part.vertices ≡ true → (place_of part.vertices v < g.vertex_count) × (slice_index part.vertices (place_of part.vertices v) ≡ v)
  vertex-place v m = (omega (arith, place-below part.vertices v m, numbered.vertex_each), place-holds part.vertices v m)

  pub place-vertex : (i : ℕ) → i < g.vertex_count → place_of part.vertices (slice_index part.vertices i) ≡ i
  place-vertex i l = place-at part.vertices i (rises-distinct part.vertices numbered.vertices_rise) (omega (arith, l, numbered.vertex_each))

  module _ (q : List (List ℕ)) (system : IsRotationSystem g q) (i : ℕ) (inside : i < g.vertex_count) where
    abbrev order : List ℕ
    order = order_at q i

    abbrev is : IsCyclicOrder (incident_edges g i) order
    is = system.orders i inside

    -- its edges are those at the vertex
    pub order-member : (x : ℕ) → is_member x order ≡ is_member x (incident_edges g i)
    order-member x = permutation-member (incident_edges g i) order x is.arranged

    pub order-edge : (x : ℕ) → is_member x order ≡ true → x < edge_count g
    order-edge x m =
        let w = place-of (incident_edges g i) x (sym (order-member x) ∙ m) in
        incident-edge g i x (w.0, w.1, get_or_default (incident_edges g i) w.0 x 0 w.1 ∙ w.2)

    incident-distinct : is_distinct (incident_edges g i) ≡ true
    incident-distinct = rises-distinct (incident_edges g i) (λ a b l h. incident-rises g i a b 0 l h)

    pub order-distinct : is_distinct order ≡ true
    order-distinct = permutation-distinct (incident_edges g i) order is.arranged incident-distinct

    -- in the numbers of the graph
    pub outer-distinct : is_distinct (map edge order) ≡ true
    outer-distinct = distinct-map edge order (λ x y m n e. edge-once x y (order-edge x m) (order-edge y n) e) order-distinct

    incident-member : (x : ℕ) → is_member x (incident_edges g i) ≡ true → x < edge_count g
    incident-member x m = order-edge x (order-member x ∙ m)

    pub outer-arranged : IsPermutation (map edge (incident_edges g i)) (map edge order)
    outer-arranged = permuted-map edge (incident_edges g i) order incident-distinct (λ x y m n e. edge-once x y (incident-member x m) (incident-member y n) e) is.arranged

    pub outer-member : (e : ℕ) → is_member e (map edge order) ≡ is_member e (map edge (incident_edges g i))
    outer-member e = permutation-member (map edge (incident_edges g i)) (map edge order) e outer-arranged

    pub outer-first : first_or 0 (map edge order) ≡ first_or 0 (map edge (incident_edges g i))
    outer-first = first-map edge order (incident_edges g i) order-member is.least_first

    -- the first of the edges at a vertex is the least
    least-incident : (l : List ℕ) → Rises l → (x : ℕ) → is_member x l ≡ true → first_or 0 l ≤ x
    least-incident [] r x m = absurd (omega (arith, place-below [] x m))
    least-incident (y ∷ l) r x m =
        let w = place-of (y ∷ l) x m in
        elim (cases_order 0 w.0) [
          | inl e ↦ let z : y ≡ slice_index (y ∷ l) w.0 = ap (slice_index (y ∷ l)) e in omega (arith, z, w.2)
          | inr (inl h) ↦ let z : y < slice_index (y ∷ l) w.0 = r 0 w.0 h w.1 in omega (arith, z, w.2)
          | inr (inr h) ↦ absurd (omega (arith, h))
        ]

    -- so the list begins with the least edge
    pub outer-written : from_least (map edge order) ≡ map edge order
    outer-written = written-first (map edge order) least
      where
        above : (l : List ℕ) (x : ℕ) → is_member x l ≡ true → ((y : ℕ) → is_member y l ≡ true → first_or 0 l ≤ y) → ((y : ℕ) → is_member y l ≡ true → y < edge_count g) → first_or 0 (map edge l) ≤ edge x
        above [] x m h k = absurd (omega (arith, place-below [] x m))
        above (y ∷ l) x m h k = edge-increases y x (h x m) (k x m)

        least : (e : ℕ) → is_member e (map edge order) ≡ true → first_or 0 (map edge order) ≤ e
        least e m =
            let w = map-member edge order e m in
            let a = above order w.0 w.1 (λ y n. let z = least-incident (incident_edges g i) (λ a b l h. incident-rises g i a b 0 l h) y (sym (order-member y) ∙ n) in omega (arith, z, is.least_first)) order-edge in
            omega (arith, a, w.2)

  -- rotation systems with equal orders are equal
  pub systems-told : (q r : List (List ℕ)) → IsRotationSystem g q → IsRotationSystem g r → ((v : ℕ) → is_member v part.vertices ≡ true → outer_at part q v ≡ outer_at part r v) → q ≡ r
  systems-told q r a b same = ext_get_or [] q r (a.vertices ∙ sym b.vertices) (λ i l. at i (omega (arith, l, a.vertices)))
    where
      at : (i : ℕ) → i < g.vertex_count → order_at q i ≡ order_at r i
      at i l =
          let v : ℕ = slice_index part.vertices i in
          let m : is_member v part.vertices ≡ true = member-there i l in
          let e : map edge (order_at q i) ≡ map edge (order_at r i) = subst (λ z. map edge (order_at q z) ≡ map edge (order_at r z)) (place-vertex i l) (same v m) in
          map-injective edge (order_at q i) (order_at r i) (λ x y u w f. edge-once x y (order-edge q a i l x u) (order-edge r b i l y w) f) e
        where
          member-there : (i : ℕ) → i < g.vertex_count → is_member (slice_index part.vertices i) part.vertices ≡ true
          member-there i l = member-at part.vertices i 0 (omega (arith, l, numbered.vertex_each))
