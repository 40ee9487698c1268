-- The rotation system of a component from those of its blocks and arrangements at its cut vertices: its parts in the blocks, its
-- orders around the vertices, and that it is plane.
use Rattle.std.proofs.Common.{◌≡◌, ℕ, ◌<◌, inl, inr, true, ◌==◌, List, [], ◌∷◌, length, map, filter, slice_index, slice_index_or, refl, sym, ap, ◌∙◌, subst, arith, Contains, eq-eqb, eqb-true}
use Rattle.std.specs.List.Sorted.{IsPermutation}
use Rattle.std.proofs.lemmas.Bool.{both_ways, cases_Bool, cond-true, cond-false}
use Rattle.std.proofs.lemmas.List.{get_or-map, length-map, ext_get_or}
use Rattle.std.proofs.lemmas.List.Elements.{Contains-get_or}
use Rattle.std.proofs.lemmas.List.Sorted.{IsPermutation-map, length_permutation}
use Rattle.permutations.specs.Members.{is_member, is_distinct, place_of}
use Rattle.permutations.specs.Cyclic.{first_or, from_least, turned, IsTurn, FollowsAround}
use Rattle.permutations.proofs.Relation.{same-tests}
use Rattle.permutations.proofs.Search.{some-from, some-witness}
use Rattle.permutations.proofs.Members.{member-head, member-tail}
use Rattle.permutations.proofs.Mapped.{map-member, member-map}
use Rattle.permutations.proofs.Filter.{filter-ext, member-filter_parts, distinct-filter}
use Rattle.permutations.proofs.Turned.{IsTurn-map, turned-own}
use Rattle.permutations.proofs.NormalForm.{from_least-same}
use Rattle.permutations.proofs.CyclicOrder as cyclic
use Rattle.permutations.proofs.Arrangements.{permutation-member, permutation-distinct, member-at}
use Rattle.permutations.proofs.Places.{place-below, place-holds}
use Rattle.multigraph.specs.Graph.{Multigraph, edge_count, incident_edges, IsGraph, IsWithinLimits}
use Rattle.multigraph.specs.Part.{GraphPart, IsPart}
use Rattle.rotations.specs.Entries.{list_at}
use Rattle.rotations.specs.PartLists.{outer_edges, outer_list}
use Rattle.rotations.specs.Rotation.{order_at, IsCyclicOrder, IsRotationSystem}
use Rattle.rotations.proofs.Membership.{member-edge}
use Rattle.graph_theory.specs.Block.{SameBlock}
use Rattle.faces.specs.Euler.{IsPlane, IsPlaneSystem}
use Rattle.faces.specs.Subgraph.{IsSubgraph, is_kept, IsRestriction}
use Rattle.faces.proofs.MapLists.{filter-map, map-back}
use Rattle.skeletons.specs.Lists.{IsKept}
use Rattle.skel_embed.specs.Block.{lock_at}
use Rattle.skel_embed.specs.Taken.{IsGiven}
use Rattle.blocks.specs.Blocks.{BlockStructure, block_at, IsBlockStructure}
use Rattle.block_planes.specs.Crossing.{NoBlocksCross, IsPlaneOn}
use Rattle.block_planes.proofs.BlockLabels.{plane_by_blocks}
use Rattle.whole_embed.specs.Component.{Component, BlockInPlane, component_vertices, component_edges, component_of, AreInPlane}
use Rattle.whole_embed.specs.Around.{outer_at, edges_around}
use Rattle.whole_embed.specs.Whole.{AreArranged, first_order, order_around, whole_lists, whole_system, block_part, IsWholeMember}
use Rattle.whole_embed.proofs.Components.{vertices-rise, edges-rise, cut-in, cuts-rise}
use Rattle.whole_embed.proofs.ComponentBlocks.{numbered, inner_blocks, inner-length, inner-at, among, component-blocks, inner_part, inner-part, part-edge, part-vertex, same-inner, same-outer}
use Rattle.whole_embed.proofs.Outer.{place-rising, rises-distinct, round-back, round-written}
use Rattle.whole_embed.proofs.Arranging.{IsRight, order-right, right-edge, part-of, sub-of, system-of, around-rise}

-- the first of the images, of two lists of the same members that begin with the same one
first-image : (f : ℕ → ℕ) (l o : List ℕ) → IsPermutation l o → first_or 0 o ≡ first_or 0 l → first_or 0 (map f o) ≡ first_or 0 (map f l)
first-image f [] [] p e = refl
first-image f [] (y ∷ o) p e = absurd (omega (arith, length_permutation [] (y ∷ o) p))
first-image f (x ∷ l) [] p e = absurd (omega (arith, length_permutation (x ∷ l) [] p))
first-image f (x ∷ l) (y ∷ o) p e = ap f e

-- the images of members that come in an order around a list come in this order around the images
around-map : (f : ℕ → ℕ) (l k : List ℕ) → ((z w : ℕ) → is_member z l ≡ true → is_member w k ≡ true → f z ≡ f w → z ≡ w) → FollowsAround l k → FollowsAround (map f l) (map f k)
around-map f l k once o = subst (λ v. IsTurn v (map f k))
    (ap (map f) (filter-ext (λ z. is_member z k) (λ z. is_member (f z) (map f k)) l same) ∙ sym (filter-map f (λ z. is_member z (map f k)) l))
    (IsTurn-map f (filter (λ z. is_member z k) l) k o)
  where
    same : (z : ℕ) → is_member z l ≡ true → is_member z k ≡ is_member (f z) (map f k)
    same z m = same-tests (is_member z k) (is_member (f z) (map f k))
        (λ t. member-map f k z t)
        (λ t. let y = map-member f k (f z) t in subst (λ v. is_member v k ≡ true) (sym (once z y.0 m y.1 (sym y.2))) y.1)

-- the list for a vertex, of one list for each of some vertices
pub list-for : (f : ℕ → List ℕ) (vs : List ℕ) (v : ℕ) → is_member v vs ≡ true → list_at (map (λ x. (x, f x)) vs) v ≡ f v
list-for f [] v m = absurd (both_ways (is_member v []) refl m)
list-for f (x ∷ vs) v m = elim (cases_Bool (x == v)) [
  | inl t ↦ cond-true (x == v) (f x) (list_at (map (λ y. (y, f y)) vs) v) t ∙ ap f (eqb-true x v t)
  | inr n ↦ let r : is_member v vs ≡ true = rw n at m in cond-false (x == v) (f x) (list_at (map (λ y. (y, f y)) vs) v) n ∙ list-for f vs v r
]

module _ (g : Multigraph) (s : BlockStructure) (c : ℕ) (is : IsBlockStructure g s) (ok : IsGraph g) (limits : IsWithinLimits g) (block : ℕ → BlockInPlane) (planes : AreInPlane g s c block)
    (lists : List (List ℕ)) (are : AreArranged (component_of g s c) block lists) where
  abbrev k : Component
  k = component_of g s c

  abbrev V : List ℕ
  V = component_vertices s c

  abbrev E : List ℕ
  E = component_edges g s c

  abbrev q : List (List ℕ)
  q = whole_system k block lists

  -- the order around v
  abbrev round : ℕ → List ℕ
  round v = order_around k block lists v

  right : (v : ℕ) → is_member v V ≡ true → IsRight g s c is ok limits block planes v (round v)
  right v m = order-right g s c is ok limits block planes lists are v m

  round-edge : (v : ℕ) → is_member v V ≡ true → (e : ℕ) → is_member e (round v) ≡ true → is_member e E ≡ true
  round-edge v mv e m = (right-edge g s c is ok limits block planes v (round v) mv (right v mv).all e m).0

  vertex-place : (i : ℕ) → i < length V → place_of V (slice_index V i) ≡ i
  vertex-place i l = place-rising V i (vertices-rise g s c is) l

  whole-at : (i : ℕ) → i < length V → order_at q i ≡ map (place_of E) (round (slice_index V i))
  whole-at i l = get_or-map (λ v. map (place_of E) (round v)) V i 0 [] l

  -- around v, in the numbers of the graph, it has the order
  pub outer-whole : (v : ℕ) → is_member v V ≡ true → outer_at k.part q v ≡ round v
  outer-whole v m =
      ap (map (slice_index E)) (whole-at (place_of V v) (place-below V v m) ∙ ap (λ z. map (place_of E) (round z)) (place-holds V v m))
      ∙ map-back (slice_index E) (place_of E) (round v) (λ z t. place-holds E z (round-edge v m z t))

  -- it is a rotation system
  pub whole-rotation : IsRotationSystem k.part.graph q
  whole-rotation = record { vertices = length-map V (λ v. map (place_of E) (round v)); orders = orders }
    where
      orders : (i : ℕ) → i < k.part.graph.vertex_count → IsCyclicOrder (incident_edges k.part.graph i) (order_at q i)
      orders i l =
          let v = slice_index V i in
          let r = right v (member-at V i 0 l) in
          let back : map (place_of E) (edges_around k v) ≡ incident_edges k.part.graph i =
          ap (λ z. map (place_of E) (map (slice_index E) (incident_edges k.part.graph z))) (vertex-place i l)
          ∙ map-back (place_of E) (slice_index E) (incident_edges k.part.graph i) (λ z t. place-rising E z (edges-rise g s c is) (omega (arith, member-edge k.part.graph i z t, (numbered g s c is ok limits).edge_each))) in
          subst (IsCyclicOrder (incident_edges k.part.graph i)) (sym (whole-at i l)) (subst (λ z. IsCyclicOrder z (map (place_of E) (round v))) back (record {
            arranged = IsPermutation-map (place_of E) (edges_around k v) (round v) r.all;
            least_first = first-image (place_of E) (edges_around k v) (round v) r.all r.first;
          }))

  module _ (b : ℕ) (mb : is_member b k.blocks ≡ true) where
    -- the part of the graph
    abbrev P : GraphPart
    P = (block b).part

    part-is : IsPart g (block_at s.blocks b) P
    part-is = part-of g s c is ok limits block planes b mb

    abbrev ρ : List (List ℕ)
    ρ = (block b).rotation

    rotation-is : IsRotationSystem P.graph ρ
    rotation-is = system-of g s c is ok limits block planes b mb

    in-component : (v : ℕ) → is_member v P.vertices ≡ true → is_member v V ≡ true
    in-component v m = part-vertex g s c is ok limits b mb P part-is v m

    vertex-of : (i : ℕ) → i < P.graph.vertex_count → is_member (slice_index P.vertices i) P.vertices ≡ true
    vertex-of i l = member-at P.vertices i 0 (omega (arith, l, part-is.numbered.vertex_each))

    own-place : (i : ℕ) → i < P.graph.vertex_count → place_of P.vertices (slice_index P.vertices i) ≡ i
    own-place i l = place-rising P.vertices i part-is.numbered.vertices_rise (omega (arith, l, part-is.numbered.vertex_each))

    -- around a vertex of the block it has the block's edges in their order
    pub kept-order : (v : ℕ) → is_member v P.vertices ≡ true → from_least (filter (λ e. is_member e P.edges) (round v)) ≡ outer_at P ρ v
    kept-order v m = (right v (in-component v m)).kept b mb m

    -- its part in the block is the rotation system of the block
    pub whole-part : block_part k P q ≡ ρ
    whole-part = ext_get_or [] (block_part k P q) ρ
        (length-map P.vertices listed ∙ (part-is.numbered.vertex_each ∙ sym rotation-is.vertices))
        (λ i l. at i (omega (arith, l, length-map P.vertices listed, part-is.numbered.vertex_each)))
      where
        listed : ℕ → List ℕ
        listed v = map (place_of P.edges) (from_least (filter (λ e. is_member e P.edges) (outer_at k.part q v)))

        at : (i : ℕ) → i < P.graph.vertex_count → order_at (block_part k P q) i ≡ order_at ρ i
        at i l =
            let v = slice_index P.vertices i in
            let m : is_member v P.vertices ≡ true = vertex-of i l in
            get_or-map listed P.vertices i 0 [] (omega (arith, l, part-is.numbered.vertex_each))
            ∙ (ap (λ o. map (place_of P.edges) (from_least (filter (λ e. is_member e P.edges) o))) (outer-whole v (in-component v m))
            ∙ (ap (map (place_of P.edges)) (kept-order v m)
            ∙ (round-back g P part-is.numbered (sub-of g s c is ok limits block planes b mb) ρ rotation-is v m
            ∙ ap (order_at ρ) (own-place i l))))

    -- the part of the component that the block is
    abbrev I : GraphPart
    I = inner_part g s c is ok limits P

    -- an edge of the component is kept in the part exactly where the block has it
    kept-test : (e : ℕ) → is_member e E ≡ true → is_kept P.graph (slice_index I.edges) (place_of E e) ≡ is_member e P.edges
    kept-test e m = same-tests (is_kept P.graph (slice_index I.edges) (place_of E e)) (is_member e P.edges)
        (λ t. let w = some-witness (edge_count P.graph) (λ i. slice_index I.edges i == place_of E e) t in
        let lw : w.0 < length P.edges = omega (arith, w.1, part-is.numbered.edge_each) in
        let mw : is_member (slice_index P.edges w.0) P.edges ≡ true = member-at P.edges w.0 0 lw in
        let same : place_of E (slice_index P.edges w.0) ≡ place_of E e = sym (get_or-map (place_of E) P.edges w.0 0 0 lw) ∙ eqb-true (slice_index I.edges w.0) (place_of E e) w.2 in
        let one : slice_index P.edges w.0 ≡ e = sym (place-holds E (slice_index P.edges w.0) (part-edge g s c is ok limits b mb P part-is (slice_index P.edges w.0) mw)) ∙ (ap (slice_index E) same ∙ place-holds E e m) in
        subst (λ z. is_member z P.edges ≡ true) one mw)
        (λ t. let l : place_of P.edges e < length P.edges = place-below P.edges e t in
        some-from (edge_count P.graph) (λ i. slice_index I.edges i == place_of E e) (place_of P.edges e) (omega (arith, l, part-is.numbered.edge_each))
        (eq-eqb (slice_index I.edges (place_of P.edges e)) (place_of E e) (get_or-map (place_of E) P.edges (place_of P.edges e) 0 0 l ∙ ap (place_of E) (place-holds P.edges e t))))

    -- what it leaves of itself on the part is the rotation system of the block
    module _ (inner : List (List ℕ)) (system : IsRotationSystem P.graph inner) (left : IsRestriction P.graph (slice_index I.edges) (slice_index I.vertices) q inner) where
      left-at : (i : ℕ) → i < P.graph.vertex_count → order_at inner i ≡ order_at ρ i
      left-at i l =
          sym (round-back g P part-is.numbered sub inner system v m ∙ ap (order_at inner) (own-place i l))
          ∙ (ap (map (place_of P.edges)) same
          ∙ (round-back g P part-is.numbered sub ρ rotation-is v m ∙ ap (order_at ρ) (own-place i l)))
        where
          v : ℕ
          v = slice_index P.vertices i

          m : is_member v P.vertices ≡ true
          m = vertex-of i l

          mv : is_member v V ≡ true
          mv = in-component v m

          sub : IsSubgraph P.graph g (slice_index P.edges) (slice_index P.vertices)
          sub = sub-of g s c is ok limits block planes b mb

          kept : List ℕ
          kept = filter (λ e. is_member e P.edges) (round v)

          li : i < length P.vertices
          li = omega (arith, l, part-is.numbered.vertex_each)

          -- the order around it in the component, in its numbers
          around : order_at q (slice_index I.vertices i) ≡ map (place_of E) (round v)
          around = ap (order_at q) (get_or-map (place_of V) P.vertices i 0 0 li) ∙ (whole-at (place_of V v) (place-below V v mv) ∙ ap (λ z. map (place_of E) (round z)) (place-holds V v mv))

          chosen : filter (is_kept P.graph (slice_index I.edges)) (order_at q (slice_index I.vertices i)) ≡ map (place_of E) kept
          chosen = ap (filter (is_kept P.graph (slice_index I.edges))) around
              ∙ (filter-map (place_of E) (is_kept P.graph (slice_index I.edges)) (round v)
              ∙ ap (map (place_of E)) (filter-ext (λ z. is_kept P.graph (slice_index I.edges) (place_of E z)) (λ e. is_member e P.edges) (round v) (λ z t. kept-test z (round-edge v mv z t))))

          -- the edges of an order of the part are its edges
          inner-edge : (z : ℕ) → is_member z (order_at inner i) ≡ true → z < length P.edges
          inner-edge z t = omega (arith, member-edge P.graph i z (sym (permutation-member (incident_edges P.graph i) (order_at inner i) z (system.orders i l).arranged) ∙ t), part-is.numbered.edge_each)

          back : map (slice_index E) (map (slice_index I.edges) (order_at inner i)) ≡ outer_at P inner v
          back = two (order_at inner i) (λ z t. inner-edge z t) ∙ ap (λ z. map (slice_index P.edges) (order_at inner z)) (sym (own-place i l))
            where
              two : (o : List ℕ) → ((z : ℕ) → is_member z o ≡ true → z < length P.edges) → map (slice_index E) (map (slice_index I.edges) o) ≡ map (slice_index P.edges) o
              two [] h = refl
              two (z ∷ o) h = let lz : z < length P.edges = h z (member-head z o) in
                  let e : slice_index E (slice_index I.edges z) ≡ slice_index P.edges z = ap (slice_index E) (get_or-map (place_of E) P.edges z 0 0 lz) ∙ place-holds E (slice_index P.edges z) (part-edge g s c is ok limits b mb P part-is (slice_index P.edges z) (member-at P.edges z 0 lz)) in
                  (λ j. e j ∷ two o (λ y t. h y (member-tail y z o t)) j)

          turn : IsTurn kept (outer_at P inner v)
          turn = subst (IsTurn kept) back (subst (λ z. IsTurn z (map (slice_index E) (map (slice_index I.edges) (order_at inner i))))
              (ap (map (slice_index E)) chosen ∙ map-back (slice_index E) (place_of E) kept (λ z t. place-holds E z (round-edge v mv z (member-filter_parts (λ e. is_member e P.edges) (round v) z t).0)))
              (IsTurn-map (slice_index E) (filter (is_kept P.graph (slice_index I.edges)) (order_at q (slice_index I.vertices i))) (map (slice_index I.edges) (order_at inner i)) (left i l)))

          once : is_distinct kept ≡ true
          once = distinct-filter (λ e. is_member e P.edges) (round v) (permutation-distinct (edges_around k v) (round v) (right v mv).all (rises-distinct (edges_around k v) (around-rise g s c is ok limits block planes v)))

          same : outer_at P inner v ≡ outer_at P ρ v
          same = sym (round-written g P part-is.numbered sub inner system v) ∙ (sym (from_least-same kept (outer_at P inner v) turn once) ∙ kept-order v m)

      left-is : inner ≡ ρ
      left-is = ext_get_or [] inner ρ (system.vertices ∙ sym rotation-is.vertices) (λ i l. left-at i (omega (arith, l, system.vertices)))

    -- so it is plane on the part
    pub whole-plane_on : IsPlaneOn I q
    whole-plane_on inner system left = subst (IsPlane P.graph) (sym (left-is inner system left)) (planes.planes b mb).plane

  -- blocks of the component don't cross
  pub whole-no_crossing : NoBlocksCross k.part.graph q
  whole-no_crossing v a b d e l f p r = subst (λ z. SameBlock k.part.graph z b) (back a ma) (subst (SameBlock k.part.graph (place_of E (slice_index E a))) (back b mb)
      (same-inner g s c is ok limits (slice_index E a) (slice_index E b) (outer a ma) (outer b mb)
      ((right x mx).apart (slice_index E a) (slice_index E b) (slice_index E d) (slice_index E e) around (lift a d ma md p) (lift b e mb me r))))
    where
      x : ℕ
      x = slice_index V v

      mx : is_member x V ≡ true
      mx = member-at V v 0 l

      o : List ℕ
      o = order_at q v

      four : List ℕ
      four = a ∷ b ∷ d ∷ e ∷ []

      -- a member of the order is an edge of the component
      inside : (z : ℕ) → is_member z o ≡ true → z < length E
      inside z t = let w = map-member (place_of E) (round x) z (subst (λ y. is_member z y ≡ true) (whole-at v l) t) in
          subst (λ y. y < length E) w.2 (place-below E w.0 (round-edge x mx w.0 w.1))

      of-four : (z : ℕ) → is_member z four ≡ true → z < length E
      of-four z t = inside z (cyclic.around-member o four z f t)

      ma : a < length E
      ma = of-four a (member-head a (b ∷ d ∷ e ∷ []))

      mb : b < length E
      mb = of-four b (member-tail b a (b ∷ d ∷ e ∷ []) (member-head b (d ∷ e ∷ [])))

      md : d < length E
      md = of-four d (member-tail d a (b ∷ d ∷ e ∷ []) (member-tail d b (d ∷ e ∷ []) (member-head d (e ∷ []))))

      me : e < length E
      me = of-four e (member-tail e a (b ∷ d ∷ e ∷ []) (member-tail e b (d ∷ e ∷ []) (member-tail e d (e ∷ []) (member-head e []))))

      back : (z : ℕ) → z < length E → place_of E (slice_index E z) ≡ z
      back z t = place-rising E z (edges-rise g s c is) t

      outer : (z : ℕ) → z < length E → is_member (slice_index E z) E ≡ true
      outer z t = member-at E z 0 t

      lift : (y z : ℕ) → y < length E → z < length E → SameBlock k.part.graph y z → SameBlock g (slice_index E y) (slice_index E z)
      lift y z ly lz h = same-outer g s c is ok limits (slice_index E y) (slice_index E z) (outer y ly) (outer z lz)
          (subst (λ w. SameBlock k.part.graph w (place_of E (slice_index E z))) (sym (back y ly)) (subst (SameBlock k.part.graph y) (sym (back z lz)) h))

      around : FollowsAround (round x) (slice_index E a ∷ slice_index E b ∷ slice_index E d ∷ slice_index E e ∷ [])
      around = subst (λ z. FollowsAround z (map (slice_index E) four))
          (ap (map (slice_index E)) (whole-at v l) ∙ map-back (slice_index E) (place_of E) (round x) (λ z t. place-holds E z (round-edge x mx z t)))
          (around-map (slice_index E) o four (λ z w mz mw t. sym (back z (inside z mz)) ∙ (ap (place_of E) t ∙ back w (of-four w mw))) f)

  -- it is plane
  pub whole-plane : IsPlaneSystem k.part.graph q
  whole-plane = record {
    system = whole-rotation;
    plane = (plane_by_blocks k.part.graph q (inner_blocks g s c is ok limits) (λ i. inner_part g s c is ok limits (block (slice_index k.blocks i)).part) (numbered g s c is ok limits).is_graph whole-rotation (component-blocks g s c is ok limits) parts).1
        ((λ i l. whole-plane_on (slice_index k.blocks i) (member i l)), whole-no_crossing);
  }
    where
      lower : (i : ℕ) → i < length (inner_blocks g s c is ok limits) → i < length k.blocks
      lower i l = omega (arith, l, inner-length g s c is ok limits)

      member : (i : ℕ) → i < length (inner_blocks g s c is ok limits) → is_member (slice_index k.blocks i) k.blocks ≡ true
      member i l = among g s c is ok limits i (lower i l)

      parts : (i : ℕ) → i < length (inner_blocks g s c is ok limits) → IsPart k.part.graph (block_at (inner_blocks g s c is ok limits) i) (inner_part g s c is ok limits (block (slice_index k.blocks i)).part)
      parts i l = subst (λ z. IsPart k.part.graph z (inner_part g s c is ok limits (block (slice_index k.blocks i)).part)) (sym (inner-at g s c is ok limits i (lower i l)))
          (inner-part g s c is ok limits (slice_index k.blocks i) (member i l) (block (slice_index k.blocks i)).part (part-of g s c is ok limits block planes (slice_index k.blocks i) (member i l)))

  -- around each cut vertex it has the arrangement
  pub whole-round : (i : ℕ) → i < length k.cuts → outer_at k.part q (slice_index k.cuts i) ≡ slice_index_or lists i []
  whole-round i l =
      let v = slice_index k.cuts i in
      let m : is_member v k.cuts ≡ true = member-at k.cuts i 0 l in
      outer-whole v (cut-in g s c is v m)
      ∙ (cond-true (is_member v k.cuts) (slice_index_or lists (place_of k.cuts v) []) (first_order k block v (edges_around k v)) m
      ∙ ap (λ z. slice_index_or lists z []) (place-rising k.cuts i (cuts-rise g s c is) l))

  -- it is a member of the list of all
  pub whole-member : IsWholeMember k block q
  whole-member = record {
    plane = whole-plane;
    kept = λ b mb. subst (IsKept (block b).part.graph (block b).nodes (lock_at (block b).locks) (block b).rotation) (sym (whole-part b mb)) (record { plane = planes.planes b mb; keeps = λ j l t. refl });
  }

  -- it is the one that the lists give
  pub whole-given : IsGiven k.part (whole_lists k block lists) q
  whole-given = record {
    arranged = record {
      arranged = λ i l. subst (λ z. IsPermutation z (outer_list k.part (whole_lists k block lists) i)) (sym (edges-are i l)) (subst (IsPermutation (edges_around k (slice_index V i))) (sym (given i l)) (right (slice_index V i) (member-at V i 0 l)).all);
      vertices = λ v n. subst (λ z. Contains V z) (sym (ap (λ z. z.0) (get_or-map pair V n.0 0 (0, []) (named n.0 n.1))) ∙ n.2) (Contains-get_or V n.0 0 (named n.0 n.1));
    };
    system = whole-rotation;
    orders = λ i l.
        let v = slice_index V i in
        let r = right v (member-at V i 0 l) in
        ap (λ z. map (slice_index E) (order_at q z)) (sym (vertex-place i l))
        ∙ (outer-whole v (member-at V i 0 l)
        ∙ (sym (turned-own (round v))
        ∙ (ap (turned (round v)) (r.first ∙ sym (ap (first_or 0) (edges-are i l)))
        ∙ ap (λ o. turned o (first_or 0 (outer_edges k.part i))) (sym (given i l)))));
  }
    where
      pair : ℕ → ℕ × List ℕ
      pair x = (x, round x)

      named : (i : ℕ) → i < length (whole_lists k block lists) → i < length V
      named i l = omega (arith, l, length-map V pair)

      given : (i : ℕ) → i < length V → outer_list k.part (whole_lists k block lists) i ≡ round (slice_index V i)
      given i l = list-for round V (slice_index V i) (member-at V i 0 l)

      edges-are : (i : ℕ) → i < length V → outer_edges k.part i ≡ edges_around k (slice_index V i)
      edges-are i l = ap (λ z. map (slice_index E) (incident_edges k.part.graph z)) (sym (vertex-place i l))
