-- A rotation system of a component is determined by its parts in the blocks and its orders around the cut vertices; and around each
-- cut vertex a plane one has an arrangement of its parts.
use Rattle.std.proofs.Common.{◌≡◌, ◌≢◌, ℕ, ◌<◌, inl, inr, true, false, ◌==◌, List, [], ◌∷◌, map, filter, slice_index, refl, sym, ap, ◌∙◌, subst, arith}
use Rattle.std.proofs.lemmas.Bool.{cases_Bool, true≢false, eq-eqb, eqb-true, false_from_ne_true}
use Rattle.std.proofs.lemmas.List.{get_or-map}
use Rattle.permutations.specs.Members.{is_member, is_distinct, place_of}
use Rattle.permutations.specs.Cyclic.{from_least}
use Rattle.permutations.proofs.Members.{member-head}
use Rattle.permutations.proofs.Mapped.{map-member}
use Rattle.permutations.proofs.Arrangements.{member-at}
use Rattle.permutations.proofs.Places.{place-holds, place-below}
use Rattle.permutations.proofs.Filter.{filter-all, filter-ext, member-filter_parts, distinct-filter}
use Rattle.permutations.proofs.NormalForm.{from_least-twice, from_least-member}
use Rattle.permutations.proofs.CyclicOrder.{around-member}
use Rattle.multigraph.specs.Graph.{Multigraph, edge_count}
use Rattle.graph_theory.specs.Block.{SameBlock}
use Rattle.rotations.specs.Rotation.{order_at, IsRotationSystem}
use Rattle.block_planes.proofs.NoCrossing.{plane-no_crossing}
use Rattle.arrangements.specs.Arranged.{of_block, keeps, cross, IsArrangement}
use Rattle.arrangements.specs.Refused.{Alternate}
use Rattle.arrangements.proofs.Laws.{cross_is_alternate}
use Rattle.arrangements.proofs.Lists.{equal-same}
use Rattle.arrangements.proofs.Changes.{cross-differ}
use Rattle.whole_embed.specs.Component.{Component, BlockInPlane}
use Rattle.whole_embed.specs.Around.{outer_at, edges_around, block_with, block_order}
use Rattle.whole_embed.specs.Whole.{block_part, IsWholeMember}
use Rattle.whole_embed.proofs.Assembled.{IsAssembled}
use Rattle.whole_embed.proofs.Mapping.{no-members, same-test, map-injective, map-back, around-back}
use Rattle.whole_embed.proofs.Rounds.{edge-place, vertex-place, order-edge, outer-distinct, outer-arranged, outer-member, outer-first, outer-written, systems-told}

module _ (k : Component) (block : ℕ → BlockInPlane) (made : IsAssembled k block) where
  abbrev g : Multigraph
  g = k.part.graph

  -- the edges of block b in the list
  abbrev inside : ℕ → List ℕ → List ℕ
  inside b l = filter (λ e. is_member e (block b).part.edges) l

  -- the part in block b around vertex v of it
  part-at : (q : List (List ℕ)) (b v : ℕ) → is_member v (block b).part.vertices ≡ true
      → order_at (block_part k (block b).part q) (place_of (block b).part.vertices v) ≡ map (place_of (block b).part.edges) (from_least (inside b (outer_at k.part q v)))
  part-at q b v m =
      get_or-map (λ u. map (place_of (block b).part.edges) (from_least (inside b (outer_at k.part q u)))) (block b).part.vertices (place_of (block b).part.vertices v) 0 [] (place-below (block b).part.vertices v m)
      ∙ ap (λ u. map (place_of (block b).part.edges) (from_least (inside b (outer_at k.part q u)))) (place-holds (block b).part.vertices v m)

  module _ (q : List (List ℕ)) (system : IsRotationSystem g q) (v : ℕ) (there : is_member v k.part.vertices ≡ true) where
    abbrev i : ℕ
    i = place_of k.part.vertices v

    i-in : i < g.vertex_count
    i-in = (vertex-place k.part made.numbered v there).0

    pub round-member : (e : ℕ) → is_member e (outer_at k.part q v) ≡ is_member e (edges_around k v)
    round-member e = outer-member k.part made.numbered q system i i-in e

    -- the edges around a vertex are edges of the component
    pub round-edge : (e : ℕ) → is_member e (outer_at k.part q v) ≡ true → is_member e k.part.edges ≡ true
    round-edge e m =
        let w = map-member (slice_index k.part.edges) (order_at q i) e m in
        subst (λ z. is_member z k.part.edges ≡ true) w.2 (edge-in w.0 (order-edge k.part made.numbered q system i i-in w.0 w.1))
      where
        edge-in : (x : ℕ) → x < edge_count g → is_member (slice_index k.part.edges x) k.part.edges ≡ true
        edge-in x l = member-at k.part.edges x 0 (omega (arith, l, made.numbered.edge_each))

    pub round-distinct : is_distinct (outer_at k.part q v) ≡ true
    round-distinct = outer-distinct k.part made.numbered q system i i-in

    pub round-written : from_least (outer_at k.part q v) ≡ outer_at k.part q v
    round-written = outer-written k.part made.numbered q system i i-in

  -- with equal parts, the orders around a vertex that is not a cut vertex are equal
  part-tells : (q r : List (List ℕ)) → IsRotationSystem g q → IsRotationSystem g r → ((b : ℕ) → is_member b k.blocks ≡ true → block_part k (block b).part q ≡ block_part k (block b).part r)
      → (v : ℕ) → is_member v k.part.vertices ≡ true → is_member v k.cuts ≡ false → outer_at k.part q v ≡ outer_at k.part r v
  part-tells q r a c same v m n = by-first (edges_around k v) refl
    where
      by-first : (l : List ℕ) → l ≡ edges_around k v → outer_at k.part q v ≡ outer_at k.part r v
      by-first [] e = empty q a ∙ sym (empty r c)
        where
          empty : (s : List (List ℕ)) → IsRotationSystem g s → outer_at k.part s v ≡ []
          empty s sys = no-members (outer_at k.part s v) (λ x h. true≢false (sym (subst (λ (z : List ℕ). is_member x z ≡ true) (sym e) (sym (round-member s sys v m x) ∙ h))))
      by-first (f ∷ l) e =
          let here : is_member f (edges_around k v) ≡ true = subst (λ (z : List ℕ). is_member f z ≡ true) e (member-head f l) in
          let b : ℕ = block_with k f in
          let t = made.has_vertex v f m here in
          let fe : is_member f k.part.edges ≡ true = round-edge q a v m f (round-member q a v m f ∙ here) in
          let w = made.edge_block f fe in
          let eq : map (place_of (block b).part.edges) (outer_at k.part q v) ≡ map (place_of (block b).part.edges) (outer_at k.part r v) =
          sym (ap (map (place_of (block b).part.edges)) (whole q a f here)) ∙ (sym (part-at q b v t) ∙ (ap (λ (z : List (List ℕ)). order_at z (place_of (block b).part.vertices v)) (same b w.0) ∙ (part-at r b v t ∙ ap (map (place_of (block b).part.edges)) (whole r c f here)))) in
          map-injective (place_of (block b).part.edges) (outer_at k.part q v) (outer_at k.part r v)
          (λ x y h j o. sym (place-holds (block b).part.edges x (of-block q a f here x h)) ∙ (ap (slice_index (block b).part.edges) o ∙ place-holds (block b).part.edges y (of-block r c f here y j)))
          eq
        where
          -- all edges there are of one block
          of-block : (s : List (List ℕ)) → IsRotationSystem g s → (f : ℕ) → is_member f (edges_around k v) ≡ true → (x : ℕ) → is_member x (outer_at k.part s v) ≡ true → is_member x (block (block_with k f)).part.edges ≡ true
          of-block s sys f here x h =
              let o : block_with k x ≡ block_with k f = made.one_block v x f m n (sym (round-member s sys v m x) ∙ h) here in
              subst (λ z. is_member x (block z).part.edges ≡ true) o (made.edge_block x (round-edge s sys v m x h)).1

          whole : (s : List (List ℕ)) → IsRotationSystem g s → (f : ℕ) → is_member f (edges_around k v) ≡ true → from_least (inside (block_with k f) (outer_at k.part s v)) ≡ outer_at k.part s v
          whole s sys f here = ap from_least (filter-all (λ e. is_member e (block (block_with k f)).part.edges) (outer_at k.part s v) (of-block s sys f here)) ∙ round-written s sys v m

  -- so parts and orders around the cut vertices determine the rotation system
  pub parts-tell : (q r : List (List ℕ)) → IsRotationSystem g q → IsRotationSystem g r → ((b : ℕ) → is_member b k.blocks ≡ true → block_part k (block b).part q ≡ block_part k (block b).part r)
      → ((v : ℕ) → is_member v k.cuts ≡ true → outer_at k.part q v ≡ outer_at k.part r v) → q ≡ r
  parts-tell q r a c same rounds = systems-told k.part made.numbered q r a c (λ v m. elim (cases_Bool (is_member v k.cuts)) [
    | inl y ↦ rounds v y
    | inr n ↦ part-tells q r a c same v m n
  ])

  -- a whole member with the present parts has an arrangement around each vertex
  module _ (s : List (List ℕ)) (member : IsWholeMember k block s) (same : (b : ℕ) → is_member b k.blocks ≡ true → block_part k (block b).part s ≡ (block b).rotation)
      (v : ℕ) (there : is_member v k.part.vertices ≡ true) where
    abbrev l : List ℕ
    l = outer_at k.part s v

    abbrev sys : IsRotationSystem g s
    sys = member.plane.system

    -- the edges of a block, by its number and by its list
    of-inside : (b : ℕ) → is_member b k.blocks ≡ true → of_block (block_with k) b l ≡ inside b l
    of-inside b among = filter-ext (λ e. block_with k e == b) (λ e. is_member e (block b).part.edges) l (λ e m. same-test (block_with k e == b) (is_member e (block b).part.edges)
        (λ y. subst (λ z. is_member e (block z).part.edges ≡ true) (eqb-true (block_with k e) b y) (made.edge_block e (round-edge s sys v there e m)).1)
        (λ y. eq-eqb (block_with k e) b (made.edge_in b e among y).1))

    -- the cyclic order of a block is that of its edges in the list
    order-is : (b : ℕ) → is_member b k.blocks ≡ true → is_member v (block b).part.vertices ≡ true → block_order block v b ≡ from_least (inside b l)
    order-is b among t =
        ap (λ (z : List (List ℕ)). map (slice_index (block b).part.edges) (order_at z (place_of (block b).part.vertices v))) (sym (same b among))
        ∙ (ap (map (slice_index (block b).part.edges)) (part-at s b v t)
        ∙ map-back (place_of (block b).part.edges) (slice_index (block b).part.edges) (from_least (inside b l))
        (λ x m. place-holds (block b).part.edges x (member-filter_parts (λ e. is_member e (block b).part.edges) l x (sym (from_least-member (inside b l) x) ∙ m)).1))

    kept : (e : ℕ) → is_member e l ≡ true → keeps (block_with k) (block_order block v) (block_with k e) l ≡ true
    kept e m =
        let w = made.edge_block e (round-edge s sys v there e m) in
        let t = made.has_vertex v e there (sym (round-member s sys v there e) ∙ m) in
        let b : ℕ = block_with k e in
        let d : is_distinct (inside b l) ≡ true = distinct-filter (λ x. is_member x (block b).part.edges) l (round-distinct s sys v there) in
        equal-same (from_least (of_block (block_with k) b l)) (from_least (block_order block v b))
        (ap from_least (of-inside b w.0) ∙ sym (ap from_least (order-is b w.0 t) ∙ from_least-twice (inside b l) d))

    -- the numbers of the component's edges
    abbrev inner : ℕ → ℕ
    inner = place_of k.part.edges

    inner-back : (x : ℕ) → is_member x (order_at s (place_of k.part.vertices v)) ≡ true → inner (slice_index k.part.edges x) ≡ x
    inner-back x m = edge-place k.part made.numbered x (order-edge k.part made.numbered s sys (place_of k.part.vertices v) (vertex-place k.part made.numbered v there).0 x m)

    inner-edge : (e : ℕ) → is_member e l ≡ true → inner e < edge_count g
    inner-edge e m = let w = place-below k.part.edges e (round-edge s sys v there e m) in omega (arith, w, made.numbered.edge_each)

    inner-holds : (e : ℕ) → is_member e l ≡ true → slice_index k.part.edges (inner e) ≡ e
    inner-holds e m = place-holds k.part.edges e (round-edge s sys v there e m)

    -- blocks that alternate are one
    apart : (b c : ℕ) → b ≢ c → Alternate (block_with k) b c l → ⊥
    apart b c n a = n (sym a.of_first ∙ (one ∙ a.of_second))
      where
        on : (x : ℕ) → is_member x (a.first ∷ a.second ∷ a.third ∷ a.fourth ∷ []) ≡ true → is_member x l ≡ true
        on x m = around-member l (a.first ∷ a.second ∷ a.third ∷ a.fourth ∷ []) x a.around m

        alike : (x y : ℕ) → is_member x l ≡ true → is_member y l ≡ true → block_with k x ≡ block_with k y → SameBlock g (inner x) (inner y)
        alike x y m h e = made.same (inner x) (inner y) (inner-edge x m) (inner-edge y h) (ap (block_with k) (inner-holds x m) ∙ (e ∙ sym (ap (block_with k) (inner-holds y h))))

        m1 : is_member a.first l ≡ true
        m1 = on a.first (grind arith)

        m2 : is_member a.second l ≡ true
        m2 = on a.second (grind arith)

        m3 : is_member a.third l ≡ true
        m3 = on a.third (grind arith)

        m4 : is_member a.fourth l ≡ true
        m4 = on a.fourth (grind arith)

        crossing : SameBlock g (inner a.first) (inner a.second)
        crossing =
            plane-no_crossing g s made.numbered.is_graph sys member.plane.plane (place_of k.part.vertices v) (inner a.first) (inner a.second) (inner a.third) (inner a.fourth) (vertex-place k.part made.numbered v there).0
            (around-back (slice_index k.part.edges) inner (order_at s (place_of k.part.vertices v)) (a.first ∷ a.second ∷ a.third ∷ a.fourth ∷ []) inner-back a.around)
            (alike a.first a.third m1 m3 (a.of_first ∙ sym a.of_third)) (alike a.second a.fourth m2 m4 (a.of_second ∙ sym a.of_fourth))

        one : block_with k a.first ≡ block_with k a.second
        one = sym (ap (block_with k) (inner-holds a.first m1)) ∙ (made.same_back (inner a.first) (inner a.second) (inner-edge a.first m1) (inner-edge a.second m2) crossing ∙ ap (block_with k) (inner-holds a.second m2))

    no-cross : (b c : ℕ) → cross (block_with k) b c l ≡ false
    no-cross b c = false_from_ne_true (cross (block_with k) b c l) (λ y. let n = cross-differ (block_with k) b c l y in apart b c n ((cross_is_alternate (block_with k) b c l (round-distinct s sys v there) n).0 y))

    pub member-arranged : IsArrangement (block_with k) (block_order block v) (edges_around k v) l
    member-arranged = record {
      all = outer-arranged k.part made.numbered s sys (place_of k.part.vertices v) (vertex-place k.part made.numbered v there).0;
      least_first = outer-first k.part made.numbered s sys (place_of k.part.vertices v) (vertex-place k.part made.numbered v there).0;
      kept = kept;
      apart = no-cross;
    }
