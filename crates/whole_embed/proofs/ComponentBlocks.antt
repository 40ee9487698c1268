-- The blocks of a component, as a graph of its own, are those of the graph.
use Rattle.std.proofs.Common.{◌≡◌, ℕ, ◌<◌, ◌↔◌, true, List, [], length, map, get_or, slice_index, sym, ap, ◌∙◌, subst, arith, Contains}
use Rattle.std.proofs.lemmas.List.{get_or-map, length-map, ext_get_or}
use Rattle.permutations.specs.Members.{is_member, place_of}
use Rattle.permutations.proofs.Mapped.{map-member, member-map}
use Rattle.permutations.proofs.Arrangements.{contains-from_member, member-from_contains, member-at}
use Rattle.permutations.proofs.Places.{place-below, place-holds}
use Rattle.multigraph.specs.Graph.{Multigraph, edge_count, ends_of, is_end, IsGraph, IsWithinLimits}
use Rattle.multigraph.specs.Part.{GraphPart, Rises, IsNumbered, IsPart, IsPartOn, IsEndOf}
use Rattle.multigraph.proofs.OtherEnd.{end-in}
use Rattle.multigraph.proofs.Places.{rises-once}
use Rattle.graph_theory.specs.Block.{SameBlock}
use Rattle.blocks.specs.Blocks.{BlockStructure, block_at, AreBlocks, IsBlockStructure}
use Rattle.faces.specs.Subgraph.{IsSubgraph}
use Rattle.whole_embed.specs.Component.{Component, part_made, component_vertices, component_edges, block_of, component_of}
use Rattle.whole_embed.proofs.SubgraphBlocks.{end-inner, end-outer, inner-same, outer-same}
use Rattle.whole_embed.proofs.Outer.{place-rising, rises-map, places-rise}
use Rattle.whole_embed.proofs.Components.{vertices-rise, edges-rise, edge-in, edge-within, vertex-within, blocks-rise, block-in, end-component, block-edge, block_of-has, block_of-in, component-part}

-- a part on some vertices is a subgraph
pub part_on-subgraph : (g : Multigraph) (vertices edges : List ℕ) (part : GraphPart) → IsPartOn g vertices edges part
    → ((i : ℕ) → i < length vertices → slice_index vertices i < g.vertex_count) → ((i : ℕ) → i < length edges → slice_index edges i < edge_count g)
    → IsSubgraph part.graph g (slice_index part.edges) (slice_index part.vertices)
part_on-subgraph g vertices edges part h inside within = record {
  edges = λ i l. subst (λ e. slice_index e i < edge_count g) (sym h.edges_are) (within i (omega (arith, l, h.numbered.edge_each, ap length h.edges_are)));
  edges_once = λ i j l k e. rises-once part.edges h.numbered.edges_rise i j (omega (arith, l, h.numbered.edge_each)) (omega (arith, k, h.numbered.edge_each)) e;
  vertices = λ v l. subst (λ e. slice_index e v < g.vertex_count) (sym h.vertices_are) (inside v (omega (arith, l, h.numbered.vertex_each, ap length h.vertices_are)));
  vertices_once = λ u v l k e. rises-once part.vertices h.numbered.vertices_rise u v (omega (arith, l, h.numbered.vertex_each)) (omega (arith, k, h.numbered.vertex_each)) e;
  first_ends = λ i l. ap (λ e. (ends_of g (slice_index e i)).0) h.edges_are ∙ (sym (h.ends.first i (omega (arith, l, h.ends.each))) ∙ ap (λ e. slice_index e (ends_of part.graph i).0) (sym h.vertices_are));
  second_ends = λ i l. ap (λ e. (ends_of g (slice_index e i)).1) h.edges_are ∙ (sym (h.ends.second i (omega (arith, l, h.ends.each))) ∙ ap (λ e. slice_index e (ends_of part.graph i).1) (sym h.vertices_are));
}

-- the part on some vertices is the one that is made
pub part_on-is : (g : Multigraph) (vertices edges : List ℕ) (part : GraphPart) → Rises vertices → IsPartOn g vertices edges part → part ≡ part_made g vertices edges
part_on-is g vertices edges part rise h =
    let count : part.graph.vertex_count ≡ length vertices = sym h.numbered.vertex_each ∙ ap length h.vertices_are in
    let ends : part.graph.ends ≡ map pair edges = ext_get_or (0, 0) part.graph.ends (map pair edges) (h.ends.each ∙ sym (length-map edges pair)) (λ k l. end k (omega (arith, l, h.ends.each))) in
    λ i. record { graph = record { vertex_count = count i; ends = ends i }; vertices = h.vertices_are i; edges = h.edges_are i }
  where
    pair : ℕ → ℕ × ℕ
    pair e = (place_of vertices (ends_of g e).0, place_of vertices (ends_of g e).1)

    end : (k : ℕ) → k < length edges → get_or part.graph.ends k (0, 0) ≡ get_or (map pair edges) k (0, 0)
    end k l =
        let first : (ends_of part.graph k).0 ≡ place_of vertices (ends_of g (slice_index edges k)).0 = sym (place-rising vertices (ends_of part.graph k).0 rise (h.ends.first_in k l)) ∙ ap (place_of vertices) (h.ends.first k l) in
        let second : (ends_of part.graph k).1 ≡ place_of vertices (ends_of g (slice_index edges k)).1 = sym (place-rising vertices (ends_of part.graph k).1 rise (h.ends.second_in k l)) ∙ ap (place_of vertices) (h.ends.second k l) in
        let both : get_or part.graph.ends k (0, 0) ≡ pair (slice_index edges k) = (λ i. (first i, second i)) in
        both ∙ sym (get_or-map pair edges k 0 (0, 0) l)

module _ (g : Multigraph) (s : BlockStructure) (c : ℕ) (is : IsBlockStructure g s) (ok : IsGraph g) (limits : IsWithinLimits g) where
  -- the component as a graph, and the numbers of its vertices and edges
  abbrev k : Component
  k = component_of g s c

  abbrev V : List ℕ
  V = component_vertices s c

  abbrev E : List ℕ
  E = component_edges g s c

  part_on : IsPartOn g V E k.part
  part_on = component-part g s c is ok limits

  pub numbered : IsNumbered k.part
  numbered = part_on.numbered

  pub subgraph : IsSubgraph k.part.graph g (slice_index k.part.edges) (slice_index k.part.vertices)
  subgraph = part_on-subgraph g V E k.part part_on (vertex-within g s c is) (edge-within g s c is)

  -- the edges of block b, in the numbers of the component
  abbrev pub inner_edges : ℕ → List ℕ
  inner_edges b = map (place_of E) (block_at s.blocks b)

  -- the blocks of the component, in its numbers
  abbrev pub inner_blocks : List (List ℕ)
  inner_blocks = map inner_edges k.blocks

  pub inner-length : length inner_blocks ≡ length k.blocks
  inner-length = length-map k.blocks inner_edges

  pub inner-at : (i : ℕ) → i < length k.blocks → block_at inner_blocks i ≡ inner_edges (slice_index k.blocks i)
  inner-at i l = get_or-map inner_edges k.blocks i 0 [] l

  -- the block at place i
  pub among : (i : ℕ) → i < length k.blocks → is_member (slice_index k.blocks i) k.blocks ≡ true
  among i l = member-at k.blocks i 0 l

  pub number-in : (i : ℕ) → i < length k.blocks → slice_index k.blocks i < length s.blocks
  number-in i l = (block-in g s c is (slice_index k.blocks i) (among i l)).0

  -- an edge of a block of the component is in the component
  edge-of : (b e : ℕ) → is_member b k.blocks ≡ true → is_member e (block_at s.blocks b) ≡ true → is_member e E ≡ true
  edge-of b e = block-edge g s c is ok b e

  -- an inner edge of a block is the place of an edge of it
  inner-edge : (b e : ℕ) → is_member b k.blocks ≡ true → is_member e (inner_edges b) ≡ true → (x : ℕ) × (is_member x (block_at s.blocks b) ≡ true) × (is_member x E ≡ true) × (place_of E x ≡ e)
  inner-edge b e mb m = let w = map-member (place_of E) (block_at s.blocks b) e m in (w.0, w.1, edge-of b w.0 mb w.1, w.2)

  in-length : (x : ℕ) → is_member x E ≡ true → place_of E x < edge_count k.part.graph
  in-length x m = omega (arith, place-below E x m, numbered.edge_each)

  -- edges of the component are of one of its blocks exactly where they are of one block of the graph
  pub same-inner : (x y : ℕ) → is_member x E ≡ true → is_member y E ≡ true → SameBlock g x y → SameBlock k.part.graph (place_of E x) (place_of E y)
  same-inner x y mx my q = inner-same k.part.graph g (slice_index E) (slice_index V) numbered.is_graph subgraph (place_of E x) (place_of E y) (in-length x mx) (in-length y my) closed
      (subst (λ (z : ℕ). SameBlock g z (slice_index E (place_of E y))) (sym (place-holds E x mx)) (subst (SameBlock g x) (sym (place-holds E y my)) q))
    where
      closed : (e : ℕ) → e < edge_count g → SameBlock g (slice_index E (place_of E x)) e → (i : ℕ) × (i < edge_count k.part.graph) × (slice_index E i ≡ e)
      closed e l q =
          let w = block_of-has g s c is ok x (edge-in g s c is x mx).0 in
          let f = is.blocks.each e l in
          let b : block_of s.blocks x ≡ f.0 = (is.blocks.same (block_of s.blocks x) f.0 x e w.0 f.1 w.1 f.2).1 (subst (λ (z : ℕ). SameBlock g z e) (place-holds E x mx) q) in
          let m : is_member e E ≡ true = edge-of (block_of s.blocks x) e (block_of-in g s c is ok x mx) (subst (λ (z : ℕ). is_member e (block_at s.blocks z) ≡ true) (sym b) f.2) in
          (place_of E e, in-length e m, place-holds E e m)

  pub same-outer : (x y : ℕ) → is_member x E ≡ true → is_member y E ≡ true → SameBlock k.part.graph (place_of E x) (place_of E y) → SameBlock g x y
  same-outer x y mx my q = subst (λ (z : ℕ). SameBlock g z y) (place-holds E x mx) (subst (SameBlock g (slice_index E (place_of E x))) (place-holds E y my)
      (outer-same k.part.graph g (slice_index E) (slice_index V) numbered.is_graph subgraph (place_of E x) (place_of E y) (in-length x mx) (in-length y my) q))

  -- the inner edges of a block increase
  inner-rise : (b : ℕ) → is_member b k.blocks ≡ true → Rises (inner_edges b)
  inner-rise b m = rises-map (place_of E) (block_at s.blocks b) (is.blocks.rising b (block-in g s c is b m).0)
      (λ x y mx my l. places-rise E x y (edges-rise g s c is) (edge-of b x m mx) (edge-of b y m my) l)

  inner-least : (b : ℕ) → is_member b k.blocks ≡ true → slice_index (inner_edges b) 0 ≡ place_of E (slice_index (block_at s.blocks b) 0)
  inner-least b m = get_or-map (place_of E) (block_at s.blocks b) 0 0 0 (is.blocks.not_empty b (block-in g s c is b m).0)

  -- the first edge of a block
  least : (b : ℕ) → is_member b k.blocks ≡ true → is_member (slice_index (block_at s.blocks b) 0) E ≡ true
  least b m = edge-of b (slice_index (block_at s.blocks b) 0) m (member-at (block_at s.blocks b) 0 0 (is.blocks.not_empty b (block-in g s c is b m).0))

  -- they are the blocks of the component
  pub component-blocks : AreBlocks k.part.graph inner_blocks
  component-blocks = record {
    rising = λ i l. subst Rises (sym (inner-at i (lower i l))) (inner-rise (slice_index k.blocks i) (among i (lower i l)));
    not_empty = λ i l. omega (arith, ap length (inner-at i (lower i l)), length-map (block_at s.blocks (slice_index k.blocks i)) (place_of E), is.blocks.not_empty (slice_index k.blocks i) (number-in i (lower i l)));
    by_least = by_least;
    edges = λ i e l m.
        let w = inner-edge (slice_index k.blocks i) e (among i (lower i l)) (subst (λ (o : List ℕ). is_member e o ≡ true) (inner-at i (lower i l)) m) in
        subst (λ (z : ℕ). z < edge_count k.part.graph) w.3 (in-length w.0 w.2);
    each = each;
    same = λ i j e f l m me mf. same i j e f (lower i l) (lower j m) me mf;
  }
    where
      lower : (i : ℕ) → i < length inner_blocks → i < length k.blocks
      lower i l = omega (arith, l, inner-length)

      by_least : (i j : ℕ) → i < j → j < length inner_blocks → slice_index (block_at inner_blocks i) 0 < slice_index (block_at inner_blocks j) 0
      by_least i j l m =
          let lj = lower j m in
          let li : i < length k.blocks = omega (arith, l, lj) in
          let a = slice_index k.blocks i in
          let b = slice_index k.blocks j in
          let less : slice_index (block_at s.blocks a) 0 < slice_index (block_at s.blocks b) 0 = is.blocks.by_least a b (blocks-rise g s c is i j l lj) (number-in j lj) in
          omega (
            arith,
            ap (λ (o : List ℕ). slice_index o 0) (inner-at i li),
            ap (λ (o : List ℕ). slice_index o 0) (inner-at j lj),
            inner-least a (among i li),
            inner-least b (among j lj),
            places-rise E (slice_index (block_at s.blocks a) 0) (slice_index (block_at s.blocks b) 0) (edges-rise g s c is) (least a (among i li)) (least b (among j lj)) less,
          )

      each : (e : ℕ) → e < edge_count k.part.graph → (i : ℕ) × (i < length inner_blocks) × (is_member e (block_at inner_blocks i) ≡ true)
      each e l =
          let le : e < length E = omega (arith, l, numbered.edge_each) in
          let x = slice_index E e in
          let m : is_member x E ≡ true = member-at E e 0 le in
          let w = block_of-has g s c is ok x (edge-in g s c is x m).0 in
          let b = block_of s.blocks x in
          let mb : is_member b k.blocks ≡ true = block_of-in g s c is ok x m in
          let i = place_of k.blocks b in
          let li : i < length k.blocks = place-below k.blocks b mb in (
            i,
            omega (arith, li, inner-length),
            subst (λ (o : List ℕ). is_member e o ≡ true) (sym (inner-at i li))
                (subst (λ (z : ℕ). is_member e (inner_edges z) ≡ true) (sym (place-holds k.blocks b mb))
                (subst (λ (z : ℕ). is_member z (inner_edges b) ≡ true) (place-rising E e (edges-rise g s c is) le) (member-map (place_of E) (block_at s.blocks b) x w.1))),
          )

      same : (i j e f : ℕ) → i < length k.blocks → j < length k.blocks → is_member e (block_at inner_blocks i) ≡ true → is_member f (block_at inner_blocks j) ≡ true → (i ≡ j) ↔ SameBlock k.part.graph e f
      same i j e f li lj me mf =
          let a = slice_index k.blocks i in
          let b = slice_index k.blocks j in
          let x = inner-edge a e (among i li) (subst (λ (o : List ℕ). is_member e o ≡ true) (inner-at i li) me) in
          let y = inner-edge b f (among j lj) (subst (λ (o : List ℕ). is_member f o ≡ true) (inner-at j lj) mf) in (
            λ q. subst (λ (z : ℕ). SameBlock k.part.graph z f) x.3 (subst (SameBlock k.part.graph (place_of E x.0)) y.3
                (same-inner x.0 y.0 x.2 y.2 ((is.blocks.same a b x.0 y.0 (number-in i li) (number-in j lj) x.1 y.1).0 (ap (slice_index k.blocks) q)))),
            λ q. rises-once k.blocks (blocks-rise g s c is) i j li lj
                ((is.blocks.same a b x.0 y.0 (number-in i li) (number-in j lj) x.1 y.1).1
                (same-outer x.0 y.0 x.2 y.2 (subst (λ (z : ℕ). SameBlock k.part.graph z (place_of E y.0)) (sym x.3) (subst (SameBlock k.part.graph e) (sym y.3) q)))),
          )

  -- the part that a block's edges make, in the numbers of the component
  abbrev pub inner_part : GraphPart → GraphPart
  inner_part part = record { graph = part.graph; vertices = map (place_of V) part.vertices; edges = map (place_of E) part.edges }

  module _ (b : ℕ) (mb : is_member b k.blocks ≡ true) (part : GraphPart) (h : IsPart g (block_at s.blocks b) part) where
    -- its edges and vertices are in the component
    pub part-edge : (e : ℕ) → is_member e part.edges ≡ true → is_member e E ≡ true
    part-edge e m = edge-of b e mb (subst (λ (o : List ℕ). is_member e o ≡ true) h.edges_are m)

    pub part-vertex : (v : ℕ) → is_member v part.vertices ≡ true → is_member v V ≡ true
    part-vertex v m =
        let w : IsEndOf g (block_at s.blocks b) v = (h.vertices v).0 (contains-from_member part.vertices v m) in
        end-component g s c is ok w.edge v (edge-of b w.edge mb (member-from_contains (block_at s.blocks b) w.edge w.among)) w.ends_there

    -- it is the part of the component that the block's edges make
    pub inner-part : IsPart k.part.graph (inner_edges b) (inner_part part)
    inner-part = record {
      edges_are = ap (map (place_of E)) h.edges_are;
      numbered = record {
        is_graph = h.numbered.is_graph;
        limits = h.numbered.limits;
        vertex_each = length-map part.vertices (place_of V) ∙ h.numbered.vertex_each;
        edge_each = length-map part.edges (place_of E) ∙ h.numbered.edge_each;
        vertices_rise = rises-map (place_of V) part.vertices h.numbered.vertices_rise (λ x y mx my l. places-rise V x y (vertices-rise g s c is) (part-vertex x mx) (part-vertex y my) l);
        edges_rise = rises-map (place_of E) part.edges h.numbered.edges_rise (λ x y mx my l. places-rise E x y (edges-rise g s c is) (part-edge x mx) (part-edge y my) l);
      };
      vertices = λ v. (to v, from v);
      ends = record {
        each = h.ends.each ∙ sym (length-map (block_at s.blocks b) (place_of E));
        first_in = λ i l. omega (arith, h.ends.first_in i (lower i l), length-map part.vertices (place_of V));
        first = λ i l. end-of i (lower i l) (ends_of part.graph i).0 (ends_of g (slice_index (block_at s.blocks b) i)).0 (h.ends.first_in i (lower i l)) (h.ends.first i (lower i l)) (ends_of k.part.graph (slice_index (inner_edges b) i)).0
            (numbered.is_graph.first_in (slice_index (inner_edges b) i) (inner-in i (lower i l)))
            (sym (subgraph.first_ends (slice_index (inner_edges b) i) (inner-in i (lower i l))) ∙ ap (λ (e : ℕ). (ends_of g e).0) (outer-edge i (lower i l)));
        second_in = λ i l. omega (arith, h.ends.second_in i (lower i l), length-map part.vertices (place_of V));
        second = λ i l. end-of i (lower i l) (ends_of part.graph i).1 (ends_of g (slice_index (block_at s.blocks b) i)).1 (h.ends.second_in i (lower i l)) (h.ends.second i (lower i l)) (ends_of k.part.graph (slice_index (inner_edges b) i)).1
            (numbered.is_graph.second_in (slice_index (inner_edges b) i) (inner-in i (lower i l)))
            (sym (subgraph.second_ends (slice_index (inner_edges b) i) (inner-in i (lower i l))) ∙ ap (λ (e : ℕ). (ends_of g e).1) (outer-edge i (lower i l)));
      };
    }
      where
        lower : (i : ℕ) → i < length (inner_edges b) → i < length (block_at s.blocks b)
        lower i l = omega (arith, l, length-map (block_at s.blocks b) (place_of E))

        -- the edge at place i of the block
        edge-at : (i : ℕ) → i < length (block_at s.blocks b) → is_member (slice_index (block_at s.blocks b) i) E ≡ true
        edge-at i l = edge-of b (slice_index (block_at s.blocks b) i) mb (member-at (block_at s.blocks b) i 0 l)

        inner-edge_at : (i : ℕ) → i < length (block_at s.blocks b) → slice_index (inner_edges b) i ≡ place_of E (slice_index (block_at s.blocks b) i)
        inner-edge_at i l = get_or-map (place_of E) (block_at s.blocks b) i 0 0 l

        inner-in : (i : ℕ) → i < length (block_at s.blocks b) → slice_index (inner_edges b) i < edge_count k.part.graph
        inner-in i l = subst (λ (z : ℕ). z < edge_count k.part.graph) (sym (inner-edge_at i l)) (in-length (slice_index (block_at s.blocks b) i) (edge-at i l))

        outer-edge : (i : ℕ) → i < length (block_at s.blocks b) → slice_index E (slice_index (inner_edges b) i) ≡ slice_index (block_at s.blocks b) i
        outer-edge i l = ap (slice_index E) (inner-edge_at i l) ∙ place-holds E (slice_index (block_at s.blocks b) i) (edge-at i l)

        -- an end: its number p in the part, x in the graph, q in the component
        end-of : (i : ℕ) → i < length (block_at s.blocks b) → (p x : ℕ) → p < length part.vertices → slice_index part.vertices p ≡ x → (q : ℕ) → q < k.part.graph.vertex_count → slice_index V q ≡ x → slice_index (map (place_of V) part.vertices) p ≡ q
        end-of i l p x lp e q lq f =
            get_or-map (place_of V) part.vertices p 0 0 lp
            ∙ (ap (place_of V) (e ∙ sym f)
            ∙ place-rising V q (vertices-rise g s c is) (omega (arith, lq, numbered.vertex_each)))

        to : (v : ℕ) → Contains (map (place_of V) part.vertices) v → IsEndOf k.part.graph (inner_edges b) v
        to v q =
            let x = map-member (place_of V) part.vertices v (member-from_contains (map (place_of V) part.vertices) v q) in
            let w : IsEndOf g (block_at s.blocks b) x.0 = (h.vertices x.0).0 (contains-from_member part.vertices x.0 x.1) in
            let m : is_member w.edge (block_at s.blocks b) ≡ true = member-from_contains (block_at s.blocks b) w.edge w.among in
            let me : is_member w.edge E ≡ true = edge-of b w.edge mb m in
            let mv : is_member x.0 V ≡ true = part-vertex x.0 x.1 in
            record {
              edge = place_of E w.edge;
              among = contains-from_member (inner_edges b) (place_of E w.edge) (member-map (place_of E) (block_at s.blocks b) w.edge m);
              is_edge = in-length w.edge me;
              ends_there = subst (λ (z : ℕ). is_end k.part.graph z (place_of E w.edge) ≡ true) x.2
                  (end-inner k.part.graph g (slice_index E) (slice_index V) numbered.is_graph subgraph (place_of E w.edge) (place_of V x.0) (in-length w.edge me) (omega (arith, place-below V x.0 mv, numbered.vertex_each))
                  (subst (λ (z : ℕ). is_end g z (slice_index E (place_of E w.edge)) ≡ true) (sym (place-holds V x.0 mv)) (subst (λ (z : ℕ). is_end g x.0 z ≡ true) (sym (place-holds E w.edge me)) w.ends_there)));
            }

        from : (v : ℕ) → IsEndOf k.part.graph (inner_edges b) v → Contains (map (place_of V) part.vertices) v
        from v w =
            let e = inner-edge b w.edge mb (member-from_contains (inner_edges b) w.edge w.among) in
            let there : is_end g (slice_index V v) (slice_index E w.edge) ≡ true = end-outer k.part.graph g (slice_index E) (slice_index V) numbered.is_graph subgraph w.edge v w.is_edge w.ends_there in
            let at : slice_index E w.edge ≡ e.0 = ap (slice_index E) (sym e.3) ∙ place-holds E e.0 e.2 in
            let lv : v < k.part.graph.vertex_count = end-in k.part.graph v w.edge numbered.is_graph w.is_edge w.ends_there in
            let m : is_member (slice_index V v) part.vertices ≡ true = member-from_contains part.vertices (slice_index V v) ((h.vertices (slice_index V v)).1 (record {
              edge = e.0;
              among = contains-from_member (block_at s.blocks b) e.0 e.1;
              is_edge = is.blocks.edges b e.0 (block-in g s c is b mb).0 e.1;
              ends_there = subst (λ (z : ℕ). is_end g (slice_index V v) z ≡ true) at there;
            })) in
            contains-from_member (map (place_of V) part.vertices) v
            (subst (λ (z : ℕ). is_member z (map (place_of V) part.vertices) ≡ true) (place-rising V v (vertices-rise g s c is) (omega (arith, lv, numbered.vertex_each))) (member-map (place_of V) part.vertices (slice_index V v) m))
