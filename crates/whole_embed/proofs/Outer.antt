-- The edges around a vertex of a part, in the numbers of the graph.
use Rattle.std.proofs.Common.{◌≡◌, ℕ, suc, ◌==◌, eqb-true, ◌<◌, ◌≤◌, true, false, List, [], ◌∷◌, length, map, get_or, slice_index, refl, sym, ap, ◌∙◌, subst, arith, inl, inr}
use Rattle.std.specs.List.Sorted.{IsPermutation}
use Rattle.std.proofs.lemmas.Bool.{both_ways, cases_eq, cases_lt, cases_Bool}
use Rattle.std.proofs.lemmas.List.{get_or-map, length-map, get_or_past}
use Rattle.std.proofs.lemmas.List.Sorted.{IsPermutation-map}
use Rattle.permutations.specs.Members.{is_member, is_distinct, place_of}
use Rattle.permutations.specs.Cyclic.{first_or, from_least}
use Rattle.permutations.proofs.Members.{member-head}
use Rattle.permutations.proofs.Mapped.{map-member, member-map}
use Rattle.permutations.proofs.Arrangements.{permutation-member, permutation-distinct, member-at}
use Rattle.permutations.proofs.NormalForm.{written-first}
use Rattle.permutations.proofs.Places.{place-below, place-holds, place-at, told-distinct, first-at}
use Rattle.multigraph.specs.Graph.{Multigraph, edge_count, is_end, incident_edges}
use Rattle.multigraph.specs.Part.{GraphPart, Rises, IsNumbered}
use Rattle.multigraph.proofs.Places.{rises-once}
use Rattle.multigraph.proofs.Incident.{incident-rises}
use Rattle.rotations.specs.Rotation.{order_at, IsRotationSystem}
use Rattle.rotations.proofs.Membership.{incident-member, member-edge, member-end, incident-least}
use Rattle.graph_theory.proofs.Rising.{rises-first}
use Rattle.faces.specs.Subgraph.{IsSubgraph}
use Rattle.faces.proofs.MapLists.{map-back, first-same}
use Rattle.whole_embed.specs.Around.{outer_at}
use Rattle.whole_embed.proofs.SubgraphBlocks.{end-inner, end-outer, end-vertex}

-- increasing numbers under a function that increases on them
pub rises-map : (f : ℕ → ℕ) (l : List ℕ) → Rises l → ((x y : ℕ) → is_member x l ≡ true → is_member y l ≡ true → x < y → f x < f y) → Rises (map f l)
rises-map f l r up i j lt w =
    let wj : j < length l = omega (arith, w, length-map l f) in
    let wi : i < length l = omega (arith, lt, wj) in
    omega (arith, get_or-map f l i 0 0 wi, get_or-map f l j 0 0 wj, up (get_or l i 0) (get_or l j 0) (member-at l i 0 wi) (member-at l j 0 wj) (r i j lt wj))

-- increasing numbers are different
pub rises-distinct : (l : List ℕ) → Rises l → is_distinct l ≡ true
rises-distinct l r = told-distinct l (λ i j a b q. rises-once l r i j a b q)

-- the place of what is at place i of increasing numbers
pub place-rising : (l : List ℕ) (i : ℕ) → Rises l → i < length l → place_of l (slice_index l i) ≡ i
place-rising l i r h = place-at l i (rises-distinct l r) h

-- the place of what is no member is the length
pub place-absent : (l : List ℕ) (x : ℕ) → is_member x l ≡ false → place_of l x ≡ length l
place-absent [] x n = refl
place-absent (y ∷ ys) x n = elim (cases_Bool (y == x)) [
  | inl e ↦ absurd (both_ways (is_member x (y ∷ ys)) n (subst (λ (z : ℕ). is_member z (y ∷ ys) ≡ true) (eqb-true y x e) (member-head y ys)))
  | inr d ↦ let m : is_member x ys ≡ false = rw d at n in rw d (ap suc (place-absent ys x m))
]

-- of two members of increasing numbers the smaller one has the smaller place
pub places-rise : (l : List ℕ) (x y : ℕ) → Rises l → is_member x l ≡ true → is_member y l ≡ true → x < y → place_of l x < place_of l y
places-rise l x y r m k less = elim (cases_lt (place_of l x) (place_of l y)) [
  | inl t ↦ t
  | inr t ↦ elim (cases_eq (place_of l y) (place_of l x)) [
    | inl e ↦ absurd (omega (arith, less, place-holds l x m, place-holds l y k, ap (λ i. get_or l i 0) e))
    | inr n ↦ absurd (omega (arith, less, place-holds l x m, place-holds l y k, r (place_of l y) (place_of l x) (omega (arith, t, n)) (place-below l x m)))
  ]
]

-- the first value is that of the first member, where there is one
first-value : (f : ℕ → ℕ) (l : List ℕ) (w : ℕ) → is_member w l ≡ true → first_or 0 (map f l) ≡ f (first_or 0 l)
first-value f [] w m = absurd (both_ways (is_member w []) refl m)
first-value f (x ∷ xs) w m = refl

-- the first of increasing numbers is the least
pub first-least : (l : List ℕ) (x : ℕ) → Rises l → is_member x l ≡ true → first_or 0 l ≤ x
first-least l x r m = omega (arith, first-at l, rises-first l x r m)

module _ (g : Multigraph) (part : GraphPart) (n : IsNumbered part) (sub : IsSubgraph part.graph g (slice_index part.edges) (slice_index part.vertices)) where
  -- the edges of the part at vertex x of the graph
  abbrev pub edges_at : ℕ → List ℕ
  edges_at x = map (slice_index part.edges) (incident_edges part.graph (place_of part.vertices x))

  pub place-in : (x : ℕ) → is_member x part.vertices ≡ true → place_of part.vertices x < part.graph.vertex_count
  place-in x m = omega (arith, place-below part.vertices x m, n.vertex_each)

  edge-place : (y : ℕ) → is_member y part.edges ≡ true → place_of part.edges y < edge_count part.graph
  edge-place y m = omega (arith, place-below part.edges y m, n.edge_each)

  -- an edge of the part ends at vertices of the part
  pub end-is_vertex : (x y : ℕ) → is_member y part.edges ≡ true → is_end g x y ≡ true → is_member x part.vertices ≡ true
  end-is_vertex x y m i =
      let w = end-vertex part.graph g (slice_index part.edges) (slice_index part.vertices) n.is_graph sub (place_of part.edges y) x (edge-place y m)
      (subst (λ (z : ℕ). is_end g x z ≡ true) (sym (place-holds part.edges y m)) i) in
      subst (λ (z : ℕ). is_member z part.vertices ≡ true) w.2 (member-at part.vertices w.0 0 (omega (arith, w.1, n.vertex_each)))

  -- the edges at x are the edges of the part that end there
  pub at-member : (x y : ℕ) → is_member x part.vertices ≡ true → is_member y (edges_at x) ≡ true → (is_member y part.edges ≡ true) × (is_end g x y ≡ true)
  at-member x y m t =
      let v = place_of part.vertices x in
      let w = map-member (slice_index part.edges) (incident_edges part.graph (place_of part.vertices x)) y t in
      let l : w.0 < edge_count part.graph = member-edge part.graph v w.0 w.1 in
      let there : is_end g (slice_index part.vertices v) (slice_index part.edges w.0) ≡ true =
      end-outer part.graph g (slice_index part.edges) (slice_index part.vertices) n.is_graph sub w.0 v l (member-end part.graph v w.0 w.1) in (
        subst (λ (z : ℕ). is_member z part.edges ≡ true) w.2 (member-at part.edges w.0 0 (omega (arith, l, n.edge_each))),
        subst (λ (z : ℕ). is_end g z y ≡ true) (place-holds part.vertices x m) (subst (λ (z : ℕ). is_end g (slice_index part.vertices v) z ≡ true) w.2 there),
      )

  pub member-edges_at : (x y : ℕ) → is_member y part.edges ≡ true → is_end g x y ≡ true → is_member y (edges_at x) ≡ true
  member-edges_at x y m i =
      let v = place_of part.vertices x in
      let k = place_of part.edges y in
      let mx : is_member x part.vertices ≡ true = end-is_vertex x y m i in
      let there : is_end g (slice_index part.vertices v) (slice_index part.edges k) ≡ true =
      subst (λ (z : ℕ). is_end g z (slice_index part.edges k) ≡ true) (sym (place-holds part.vertices x mx)) (subst (λ (z : ℕ). is_end g x z ≡ true) (sym (place-holds part.edges y m)) i) in
      subst (λ (z : ℕ). is_member z (edges_at x) ≡ true) (place-holds part.edges y m)
      (member-map (slice_index part.edges) (incident_edges part.graph v) k
      (incident-member part.graph v k (edge-place y m) (end-inner part.graph g (slice_index part.edges) (slice_index part.vertices) n.is_graph sub k v (edge-place y m) (place-in x mx) there)))

  -- they increase
  pub edges_at-rise : (x : ℕ) → Rises (edges_at x)
  edges_at-rise x = rises-map (slice_index part.edges) (incident_edges part.graph (place_of part.vertices x))
      (λ i j l m. incident-rises part.graph (place_of part.vertices x) i j 0 l m)
      (λ a b ma mb l. n.edges_rise a b l (omega (arith, member-edge part.graph (place_of part.vertices x) b mb, n.edge_each)))

  module _ (r : List (List ℕ)) (s : IsRotationSystem part.graph r) where
    -- a rotation system of the part has them around x, in another order
    pub round-permutation : (x : ℕ) → is_member x part.vertices ≡ true → IsPermutation (edges_at x) (outer_at part r x)
    round-permutation x m = IsPermutation-map (slice_index part.edges) (incident_edges part.graph (place_of part.vertices x)) (order_at r (place_of part.vertices x)) (s.orders (place_of part.vertices x) (place-in x m)).arranged

    -- it has none around a vertex that is not of the part
    pub round-outside : (x : ℕ) → is_member x part.vertices ≡ false → outer_at part r x ≡ []
    round-outside x f =
        let at : place_of part.vertices x ≡ length part.vertices = place-absent part.vertices x f in
        ap (map (slice_index part.edges)) (get_or_past r (place_of part.vertices x) [] (omega (arith, at, n.vertex_each, s.vertices)))

    pub round-member : (x y : ℕ) → is_member y (outer_at part r x) ≡ true → (is_member y part.edges ≡ true) × (is_end g x y ≡ true)
    round-member x y m = elim (cases_Bool (is_member x part.vertices)) [
      | inl t ↦ at-member x y t (sym (permutation-member (edges_at x) (outer_at part r x) y (round-permutation x t)) ∙ m)
      | inr f ↦ absurd (both_ways (is_member y []) refl (subst (λ (l : List ℕ). is_member y l ≡ true) (round-outside x f) m))
    ]

    pub member-round : (x y : ℕ) → is_member y part.edges ≡ true → is_end g x y ≡ true → is_member y (outer_at part r x) ≡ true
    member-round x y m i = permutation-member (edges_at x) (outer_at part r x) y (round-permutation x (end-is_vertex x y m i)) ∙ member-edges_at x y m i

    pub round-distinct : (x : ℕ) → is_distinct (outer_at part r x) ≡ true
    round-distinct x = elim (cases_Bool (is_member x part.vertices)) [
      | inl t ↦ permutation-distinct (edges_at x) (outer_at part r x) (round-permutation x t) (rises-distinct (edges_at x) (edges_at-rise x))
      | inr f ↦ subst (λ (l : List ℕ). is_distinct l ≡ true) (sym (round-outside x f)) refl
    ]

    -- from the least on
    pub round-least : (x y : ℕ) → is_member y (outer_at part r x) ≡ true → first_or 0 (outer_at part r x) ≤ y
    round-least x y m =
        let v = place_of part.vertices x in
        let o = order_at r (place_of part.vertices x) in
        let mx : is_member x part.vertices ≡ true = end-is_vertex x y (round-member x y m).0 (round-member x y m).1 in
        let w = map-member (slice_index part.edges) (order_at r (place_of part.vertices x)) y m in
        let c = s.orders v (place-in x mx) in
        let wi : is_member w.0 (incident_edges part.graph v) ≡ true = sym (permutation-member (incident_edges part.graph v) o w.0 c.arranged) ∙ w.1 in
        let low : first_or 0 o ≤ w.0 = subst (λ (z : ℕ). z ≤ w.0) (sym c.least_first) (incident-least part.graph v w.0 wi) in
        let far : w.0 < length part.edges = omega (arith, member-edge part.graph v w.0 wi, n.edge_each) in
        let up : slice_index part.edges (first_or 0 o) ≤ slice_index part.edges w.0 = elim (cases_eq (first_or 0 o) w.0) [
          | inl e ↦ omega (arith, ap (slice_index part.edges) e)
          | inr d ↦ omega (arith, n.edges_rise (first_or 0 o) w.0 (omega (arith, low, d)) far)
        ] in
        omega (arith, first-value (slice_index part.edges) o w.0 w.1, up, w.2)

    pub round-first : (x : ℕ) → is_member x part.vertices ≡ true → first_or 0 (outer_at part r x) ≡ first_or 0 (edges_at x)
    round-first x m = first-same (outer_at part r x) (edges_at x) (λ z. permutation-member (edges_at x) (outer_at part r x) z (round-permutation x m)) (round-least x) (λ z t. first-least (edges_at x) z (edges_at-rise x) t)

    pub round-written : (x : ℕ) → from_least (outer_at part r x) ≡ outer_at part r x
    round-written x = written-first (outer_at part r x) (round-least x)

    -- back in the numbers of the part it is the order there
    pub round-back : (x : ℕ) → is_member x part.vertices ≡ true → map (place_of part.edges) (outer_at part r x) ≡ order_at r (place_of part.vertices x)
    round-back x m = map-back (place_of part.edges) (slice_index part.edges) (order_at r (place_of part.vertices x)) (λ z t.
        place-rising part.edges z n.edges_rise (omega (
          arith,
          member-edge part.graph (place_of part.vertices x) z (sym (permutation-member (incident_edges part.graph (place_of part.vertices x)) (order_at r (place_of part.vertices x)) z (s.orders (place_of part.vertices x) (place-in x m)).arranged) ∙ t),
          n.edge_each,
        )))
