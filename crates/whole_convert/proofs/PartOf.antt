-- A plane rotation system of a component leaves plane ones on its blocks, which their lists give.
use Rattle.std.proofs.Common.{◌≡◌, ℕ, ◌<◌, true, ◌==◌, List, [], ◌∷◌, length, map, filter, slice_index, IsPermutation, Contains, refl, sym, ap, ◌∙◌, subst, arith, eq-eqb, eqb-true}
use Rattle.std.proofs.lemmas.List.{get_or-map, length-map, ext_get_or}
use Rattle.std.proofs.lemmas.List.Elements.{Contains-get_or}
use Rattle.std.proofs.lemmas.List.Sorted.{IsPermutation-trans}
use Rattle.permutations.specs.Members.{is_member, is_distinct, place_of}
use Rattle.permutations.specs.Cyclic.{first_or, from_least, turned, IsTurn}
use Rattle.permutations.proofs.Relation.{same-tests}
use Rattle.permutations.proofs.Search.{some-from, some-witness}
use Rattle.permutations.proofs.Members.{member-head, member-tail}
use Rattle.permutations.proofs.Filter.{filter-ext, distinct-filter}
use Rattle.permutations.proofs.Turned.{IsTurn-map, IsTurn-sym, IsTurn-permutation}
use Rattle.permutations.proofs.NormalForm.{from_least-same, from_least-first_or}
use Rattle.permutations.proofs.Mapped.{map-member}
use Rattle.permutations.proofs.Arrangements.{member-at}
use Rattle.permutations.proofs.Places.{place-below, place-holds}
use Rattle.multigraph.specs.Graph.{Multigraph, edge_count, incident_edges, IsGraph, IsWithinLimits}
use Rattle.multigraph.specs.Part.{GraphPart, IsPart, IsNumbered}
use Rattle.rotations.specs.PartLists.{outer_edges, outer_list, outer_order}
use Rattle.rotations.specs.Rotation.{order_at, IsRotationSystem}
use Rattle.faces.specs.Euler.{IsPlane, IsPlaneSystem}
use Rattle.faces.specs.Subgraph.{IsSubgraph, is_kept, IsRestriction}
use Rattle.faces.proofs.MapLists.{filter-map}
use Rattle.faces.proofs.MapPartOrders.{part-orders}
use Rattle.faces.proofs.MapParts.{part-plane}
use Rattle.block_planes.proofs.OnParts.{part-subgraph}
use Rattle.arrangements.specs.Arranged.{of_block}
use Rattle.skel_embed.specs.Taken.{IsGiven}
use Rattle.blocks.specs.Blocks.{BlockStructure, block_at, IsBlockStructure}
use Rattle.whole_embed.specs.Component.{Component, BlockInPlane, component_vertices, component_edges, component_of, AreInPlane, IsComponentInPlane}
use Rattle.whole_embed.specs.Around.{outer_at, block_with}
use Rattle.whole_embed.specs.Whole.{block_part}
use Rattle.whole_embed.proofs.Components.{edges-rise}
use Rattle.whole_embed.proofs.ComponentBlocks.{numbered, inner_edges, inner_part, inner-part, part-edge, part-vertex}
use Rattle.whole_embed.proofs.Outer.{place-rising, edges_at, round-permutation, round-written, round-back, round-first}
use Rattle.whole_embed.proofs.Arranging.{part-of, sub-of, of-block}
use Rattle.whole_embed.proofs.WholeParts.{list-for}
use Rattle.whole_embed.proofs.Assembling.{of-component}
use Rattle.whole_embed.proofs.Rounds as rounds

-- of each vertex of the part, the edges of block b around it in q
abbrev pub lists_in : Component → List (List ℕ) → ℕ → GraphPart → List (ℕ × List ℕ)
lists_in k q b part = map (λ v. (v, of_block (block_with k) b (outer_at k.part q v))) part.vertices

-- a list written from its least member on, and from a member that is the least
turned-least : (l : List ℕ) (x : ℕ) → first_or 0 (from_least l) ≡ x → turned l x ≡ from_least l
turned-least [] x e = refl
turned-least (y ∷ ys) x e = ap (turned (y ∷ ys)) (sym e ∙ from_least-first_or (y ∷ ys) y (member-head y ys))

-- lists give one rotation system
pub given-one : (part : GraphPart) (entries : List (ℕ × List ℕ)) → IsNumbered part → (r q : List (List ℕ)) → IsGiven part entries r → IsGiven part entries q → r ≡ q
given-one part entries numbered r q a b = rounds.systems-told part numbered r q a.system b.system
    (λ v m. let i = rounds.vertex-place part numbered v m in a.orders (place_of part.vertices v) i.0 ∙ sym (b.orders (place_of part.vertices v) i.0))

module _ (g : Multigraph) (s : BlockStructure) (c : ℕ) (is : IsBlockStructure g s) (ok : IsGraph g) (limits : IsWithinLimits g) (block : ℕ → BlockInPlane) (planes : AreInPlane g s c block)
    (b : ℕ) (mb : is_member b (component_of g s c).blocks ≡ true) where
  abbrev k : Component
  k = component_of g s c

  abbrev V : List ℕ
  V = component_vertices s c

  abbrev E : List ℕ
  E = component_edges g s c

  abbrev P : GraphPart
  P = (block b).part

  -- the part of the component that the block is
  abbrev I : GraphPart
  I = inner_part g s c is ok limits P

  whole : IsNumbered k.part
  whole = numbered g s c is ok limits

  part-is : IsPart g (block_at s.blocks b) P
  part-is = part-of g s c is ok limits block planes b mb

  sub-graph : IsSubgraph P.graph g (slice_index P.edges) (slice_index P.vertices)
  sub-graph = sub-of g s c is ok limits block planes b mb

  edge-in_component : (e : ℕ) → is_member e P.edges ≡ true → is_member e E ≡ true
  edge-in_component e m = part-edge g s c is ok limits b mb P part-is e m

  in-component : (v : ℕ) → is_member v P.vertices ≡ true → is_member v V ≡ true
  in-component v m = part-vertex g s c is ok limits b mb P part-is v m

  edge-at : (i : ℕ) → i < length P.edges → slice_index I.edges i ≡ place_of E (slice_index P.edges i)
  edge-at i l = get_or-map (place_of E) P.edges i 0 0 l

  inside : (i : ℕ) → i < length (inner_edges g s c is ok limits b) → slice_index (inner_edges g s c is ok limits b) i < edge_count k.part.graph
  inside i l =
      let h : i < length (block_at s.blocks b) = omega (arith, l, length-map (block_at s.blocks b) (place_of E)) in
      let m : is_member (slice_index (block_at s.blocks b) i) P.edges ≡ true = subst (λ (z : List ℕ). is_member (slice_index (block_at s.blocks b) i) z ≡ true) (sym part-is.edges_are) (member-at (block_at s.blocks b) i 0 h) in
      omega (arith, get_or-map (place_of E) (block_at s.blocks b) i 0 0 h, place-below E (slice_index (block_at s.blocks b) i) (edge-in_component (slice_index (block_at s.blocks b) i) m), whole.edge_each)

  sub-component : IsSubgraph P.graph k.part.graph (slice_index I.edges) (slice_index I.vertices)
  sub-component = part-subgraph k.part.graph whole.is_graph (inner_edges g s c is ok limits b) inside I (inner-part g s c is ok limits b mb P part-is)

  own-vertex : (i : ℕ) → i < P.graph.vertex_count → is_member (slice_index P.vertices i) P.vertices ≡ true
  own-vertex i l = member-at P.vertices i 0 (omega (arith, l, part-is.numbered.vertex_each))

  own-place : (i : ℕ) → i < P.graph.vertex_count → place_of P.vertices (slice_index P.vertices i) ≡ i
  own-place i l = place-rising P.vertices i part-is.numbered.vertices_rise (omega (arith, l, part-is.numbered.vertex_each))

  -- an edge of the component is kept in the part exactly where the block has it
  kept-test : (z : ℕ) → z < length E → is_kept P.graph (slice_index I.edges) z ≡ is_member (slice_index E z) P.edges
  kept-test z l = same-tests (is_kept P.graph (slice_index I.edges) z) (is_member (slice_index E z) P.edges)
      (λ t. let w = some-witness (edge_count P.graph) (λ i. slice_index I.edges i == z) t in
      let h : w.0 < length P.edges = omega (arith, w.1, part-is.numbered.edge_each) in
      let m : is_member (slice_index P.edges w.0) P.edges ≡ true = member-at P.edges w.0 0 h in
      let e : slice_index E z ≡ slice_index P.edges w.0 =
      ap (slice_index E) (sym (eqb-true (slice_index I.edges w.0) z w.2) ∙ edge-at w.0 h) ∙ place-holds E (slice_index P.edges w.0) (edge-in_component (slice_index P.edges w.0) m) in
      subst (λ x. is_member x P.edges ≡ true) (sym e) m)
      (λ t. let h : place_of P.edges (slice_index E z) < length P.edges = place-below P.edges (slice_index E z) t in
      let e : slice_index I.edges (place_of P.edges (slice_index E z)) ≡ z =
      edge-at (place_of P.edges (slice_index E z)) h ∙ (ap (place_of E) (place-holds P.edges (slice_index E z) t) ∙ place-rising E z (edges-rise g s c is) l) in
      some-from (edge_count P.graph) (λ i. slice_index I.edges i == z) (place_of P.edges (slice_index E z)) (omega (arith, h, part-is.numbered.edge_each)) (eq-eqb (slice_index I.edges (place_of P.edges (slice_index E z))) z e))

  module _ (q : List (List ℕ)) (system : IsRotationSystem k.part.graph q) where
    -- the block's edges around v, in their order
    abbrev kept : ℕ → List ℕ
    kept v = filter (λ e. is_member e P.edges) (outer_at k.part q v)

    round-edge : (v : ℕ) → is_member v V ≡ true → (z : ℕ) → is_member z (order_at q (place_of V v)) ≡ true → z < length E
    round-edge v m z t = omega (arith, rounds.order-edge k.part whole q system (place_of V v) (rounds.vertex-place k.part whole v m).0 z t, whole.edge_each)

    kept-distinct : (v : ℕ) → is_member v V ≡ true → is_distinct (kept v) ≡ true
    kept-distinct v m = distinct-filter (λ e. is_member e P.edges) (outer_at k.part q v) (rounds.outer-distinct k.part whole q system (place_of V v) (rounds.vertex-place k.part whole v m).0)

    module _ (inner : List (List ℕ)) (inner-system : IsRotationSystem P.graph inner) (left : IsRestriction P.graph (slice_index I.edges) (slice_index I.vertices) q inner) where
      module _ (i : ℕ) (l : i < P.graph.vertex_count) where
        abbrev v : ℕ
        v = slice_index P.vertices i

        mv : is_member (slice_index P.vertices i) V ≡ true
        mv = in-component v (own-vertex i l)

        place : slice_index I.vertices i ≡ place_of V (slice_index P.vertices i)
        place = get_or-map (place_of V) P.vertices i 0 0 (omega (arith, l, part-is.numbered.vertex_each))

        chosen : map (slice_index E) (filter (is_kept P.graph (slice_index I.edges)) (order_at q (slice_index I.vertices i))) ≡ kept (slice_index P.vertices i)
        chosen =
            ap (λ z. map (slice_index E) (filter (is_kept P.graph (slice_index I.edges)) (order_at q z))) place
            ∙ (ap (map (slice_index E)) (filter-ext (is_kept P.graph (slice_index I.edges)) (λ z. is_member (slice_index E z) P.edges) (order_at q (place_of V v)) (λ z t. kept-test z (round-edge v mv z t)))
            ∙ sym (filter-map (slice_index E) (λ e. is_member e P.edges) (order_at q (place_of V v))))

        inner-edge : (z : ℕ) → is_member z (order_at inner i) ≡ true → z < length P.edges
        inner-edge z t = omega (arith, rounds.order-edge P part-is.numbered inner inner-system i l z t, part-is.numbered.edge_each)

        images : (o : List ℕ) → ((z : ℕ) → is_member z o ≡ true → z < length P.edges) → map (slice_index E) (map (slice_index I.edges) o) ≡ map (slice_index P.edges) o
        images [] h = refl
        images (z ∷ o) h =
            let lz : z < length P.edges = h z (member-head z o) in
            let e : slice_index E (slice_index I.edges z) ≡ slice_index P.edges z = ap (slice_index E) (edge-at z lz) ∙ place-holds E (slice_index P.edges z) (edge-in_component (slice_index P.edges z) (member-at P.edges z 0 lz)) in
            λ j. e j ∷ images o (λ y t. h y (member-tail y z o t)) j

        back : map (slice_index E) (map (slice_index I.edges) (order_at inner i)) ≡ outer_at P inner (slice_index P.vertices i)
        back = images (order_at inner i) inner-edge ∙ ap (λ z. map (slice_index P.edges) (order_at inner z)) (sym (own-place i l))

        pub left-turn : IsTurn (kept (slice_index P.vertices i)) (outer_at P inner (slice_index P.vertices i))
        left-turn = subst (IsTurn (kept v)) back (subst (λ z. IsTurn z (map (slice_index E) (map (slice_index I.edges) (order_at inner i)))) chosen
            (IsTurn-map (slice_index E) (filter (is_kept P.graph (slice_index I.edges)) (order_at q (slice_index I.vertices i))) (map (slice_index I.edges) (order_at inner i)) (left i l)))

        pub left-written : from_least (kept (slice_index P.vertices i)) ≡ outer_at P inner (slice_index P.vertices i)
        left-written = from_least-same (kept v) (outer_at P inner v) left-turn (kept-distinct v mv) ∙ round-written g P part-is.numbered sub-graph inner inner-system v

        left-at : order_at inner i ≡ order_at (block_part k P q) i
        left-at =
            ap (order_at inner) (sym (own-place i l))
            ∙ (sym (round-back g P part-is.numbered sub-graph inner inner-system v (own-vertex i l))
            ∙ (ap (map (place_of P.edges)) (sym left-written)
            ∙ sym (get_or-map (λ u. map (place_of P.edges) (from_least (kept u))) P.vertices i 0 [] (omega (arith, l, part-is.numbered.vertex_each)))))

      left-is : inner ≡ block_part k P q
      left-is = ext_get_or [] inner (block_part k P q) (inner-system.vertices ∙ sym (length-map P.vertices (λ u. map (place_of P.edges) (from_least (kept u))) ∙ part-is.numbered.vertex_each)) (λ i l. left-at i (omega (arith, l, inner-system.vertices)))

    abbrev r : List (List ℕ)
    r = block_part k P q

    there : (inner : List (List ℕ)) × IsRotationSystem P.graph inner × IsRestriction P.graph (slice_index I.edges) (slice_index I.vertices) q inner
    there = part-orders P.graph k.part.graph (slice_index I.edges) (slice_index I.vertices) q part-is.numbered.is_graph whole.is_graph sub-component system

    same : there.0 ≡ block_part k P q
    same = left-is there.0 there.1 there.2

    part-system : IsRotationSystem P.graph (block_part k P q)
    part-system = subst (IsRotationSystem P.graph) same there.1

    part-left : IsRestriction P.graph (slice_index I.edges) (slice_index I.vertices) q (block_part k P q)
    part-left = subst (λ (z : List (List ℕ)). IsRestriction P.graph (slice_index I.edges) (slice_index I.vertices) q z) same there.2

    part-planar : IsPlane k.part.graph q → IsPlaneSystem P.graph (block_part k P q)
    part-planar p = record {
      system = part-system;
      plane = part-plane P.graph k.part.graph (slice_index I.edges) (slice_index I.vertices) q r part-is.numbered.is_graph whole.is_graph sub-component system part-system part-left p;
    }

    -- the lists of the block
    abbrev listed : ℕ → List ℕ
    listed v = of_block (block_with k) b (outer_at k.part q v)

    abbrev entries : List (ℕ × List ℕ)
    entries = lists_in k q b P

    outer-edge : (v : ℕ) → is_member v V ≡ true → (e : ℕ) → is_member e (outer_at k.part q v) ≡ true → is_member e E ≡ true
    outer-edge v m e t =
        let w = map-member (slice_index E) (order_at q (place_of V v)) e t in
        subst (λ z. is_member z E ≡ true) w.2 (member-at E w.0 0 (round-edge v m w.0 w.1))

    listed-kept : (v : ℕ) → is_member v V ≡ true → listed v ≡ kept v
    listed-kept v m = filter-ext (λ e. block_with k e == b) (λ e. is_member e P.edges) (outer_at k.part q v)
        (λ e t. of-block g s c is ok limits block planes b mb e (outer-edge v m e t) ∙ ap (is_member e) (sym part-is.edges_are))

    list-is : (i : ℕ) → i < P.graph.vertex_count → outer_list P entries i ≡ kept (slice_index P.vertices i)
    list-is i l = list-for listed P.vertices (slice_index P.vertices i) (own-vertex i l) ∙ listed-kept (slice_index P.vertices i) (in-component (slice_index P.vertices i) (own-vertex i l))

    edges-are : (i : ℕ) → i < P.graph.vertex_count → outer_edges P i ≡ edges_at g P part-is.numbered sub-graph (slice_index P.vertices i)
    edges-are i l = ap (λ z. map (slice_index P.edges) (incident_edges P.graph z)) (sym (own-place i l))

    list-arranged : (i : ℕ) → i < P.graph.vertex_count → IsPermutation (outer_edges P i) (outer_list P entries i)
    list-arranged i l =
        let v = slice_index P.vertices i in
        subst (λ (z : List ℕ). IsPermutation z (outer_list P entries i)) (sym (edges-are i l)) (subst (IsPermutation (edges_at g P part-is.numbered sub-graph v)) (sym (list-is i l))
        (IsPermutation-trans (edges_at g P part-is.numbered sub-graph v) (outer_at P r v) (kept v) (round-permutation g P part-is.numbered sub-graph r part-system v (own-vertex i l))
        (IsTurn-permutation (outer_at P r v) (kept v) (IsTurn-sym (kept v) (outer_at P r v) (left-turn r part-system part-left i l)))))

    list-order : (i : ℕ) → i < P.graph.vertex_count → map (slice_index P.edges) (order_at r i) ≡ outer_order P entries i
    list-order i l =
        let v = slice_index P.vertices i in
        let written : from_least (kept v) ≡ outer_at P r v = left-written r part-system part-left i l in
        let first : first_or 0 (from_least (kept v)) ≡ first_or 0 (outer_edges P i) =
        ap (first_or 0) written ∙ (round-first g P part-is.numbered sub-graph r part-system v (own-vertex i l) ∙ ap (first_or 0) (sym (edges-are i l))) in
        ap (λ z. map (slice_index P.edges) (order_at r z)) (sym (own-place i l))
        ∙ (sym written
        ∙ (sym (turned-least (kept v) (first_or 0 (outer_edges P i)) first)
        ∙ ap (λ (z : List ℕ). turned z (first_or 0 (outer_edges P i))) (sym (list-is i l))))

    lists-given : IsGiven P (lists_in k q b P) (block_part k P q)
    lists-given = record {
      arranged = record {
        arranged = list-arranged;
        vertices = λ v n. subst (λ z. Contains P.vertices z) (sym (ap (λ (z : ℕ × List ℕ). z.0) (get_or-map pair P.vertices n.0 0 (0, []) (named n.0 n.1))) ∙ n.2) (Contains-get_or P.vertices n.0 0 (named n.0 n.1));
      };
      system = part-system;
      orders = list-order;
    }
      where
        pair : ℕ → ℕ × List ℕ
        pair v = (v, of_block (block_with k) b (outer_at k.part q v))

        named : (i : ℕ) → i < length entries → i < length P.vertices
        named i l = omega (arith, l, length-map P.vertices pair)

-- what a plane rotation system leaves on a block, and that the lists of the block give it
pub record IsPartOf (k : Component) (block : ℕ → BlockInPlane) (q : List (List ℕ)) (b : ℕ) : Type 0 where
  pub numbered : IsNumbered (block b).part
  pub plane : IsPlaneSystem (block b).part.graph (block_part k (block b).part q)
  pub given : IsGiven (block b).part (lists_in k q b (block b).part) (block_part k (block b).part q)
  pub vertices : (v : ℕ) → is_member v (block b).part.vertices ≡ true → is_member v k.part.vertices ≡ true

pub parts-plane : (k : Component) (block : ℕ → BlockInPlane) → IsComponentInPlane k block → (q : List (List ℕ)) → IsPlaneSystem k.part.graph q → (b : ℕ) → is_member b k.blocks ≡ true → IsPartOf k block q b
parts-plane k block w q p b m = of-component (λ (z : Component). IsPlaneSystem z.part.graph q → is_member b z.blocks ≡ true → IsPartOf z block q b) k block w
    (λ h n. record {
      numbered = (part-is w.graph w.structure w.number w.is_structure w.is_graph w.limits block w.blocks b n).numbered;
      plane = part-planar w.graph w.structure w.number w.is_structure w.is_graph w.limits block w.blocks b n q h.system h.plane;
      given = lists-given w.graph w.structure w.number w.is_structure w.is_graph w.limits block w.blocks b n q h.system;
      vertices = in-component w.graph w.structure w.number w.is_structure w.is_graph w.limits block w.blocks b n;
    }) p m
