-- The vertices, the edges, the blocks and the cut vertices of a component; that it is a part of the graph.
use Rattle.std.proofs.Common.{◌≡◌, ℕ, ◌<◌, inl, inr, Bool, true, ◌==◌, List, [], ◌∷◌, length, filter, get_or, slice_index, refl, sym, ap, ◌∙◌, subst, arith, eq-eqb, eqb-true}
use Rattle.std.proofs.lemmas.Bool.{both_ways}
use Rattle.std.proofs.lemmas.List.{get_or-map, length-map, get_or_default}
use Rattle.std.proofs.lemmas.List.Kept.{AllPairs-filter}
use Rattle.permutations.specs.Count.{some}
use Rattle.permutations.specs.Relation.{connected}
use Rattle.permutations.specs.Members.{is_member, place_of}
use Rattle.permutations.proofs.Search.{some-from, least-below, least-passes}
use Rattle.permutations.proofs.Relation.{connected-reflexive, connected-symmetric, connected-transitive}
use Rattle.permutations.proofs.Members.{member-cases}
use Rattle.permutations.proofs.Filter.{member-filter_parts, filter-member}
use Rattle.permutations.proofs.Arrangements.{contains-from_member, member-from_contains, member-at}
use Rattle.permutations.proofs.Places.{place-below, place-holds}
use Rattle.multigraph.specs.Graph.{Multigraph, edge_count, ends_of, is_end, other_end, IsGraph, IsWithinLimits}
use Rattle.multigraph.specs.Part.{Rises, HoldEnds, AreInnerEnds, IsPartOn}
use Rattle.multigraph.proofs.Below.{filter_below-has, filter_below-only, filter_below-rises}
use Rattle.multigraph.proofs.OtherEnd.{is_end-cases, end-in}
use Rattle.multigraph.proofs.Places.{rises-short}
use Rattle.multigraph.proofs.Ends.{ends-first, ends-second, inner-graph, inner-limits-by}
use Rattle.graph_theory.specs.Path.{IsWalk}
use Rattle.graph_theory.specs.Block.{SameBlock}
use Rattle.graph_theory.proofs.Connection.{ends-connected, other-connected}
use Rattle.blocks.specs.Blocks.{BlockStructure, block_at, IsBlockStructure}
use Rattle.whole_embed.specs.Component.{part_made, component_vertices, has_edge, component_edges, component_blocks, component_cuts, block_of, component_of}
use Rattle.whole_embed.specs.Around.{block_with}

-- an edge of a walk is connected with the vertex from which the walk goes
walked-connected : (g : Multigraph) (x : ℕ) (es : List ℕ) → IsWalk g x es → (h : ℕ) → is_member h es ≡ true → connected g.ends x (ends_of g h).0 ≡ true
walked-connected g x [] w h m = absurd (both_ways (is_member h []) refl m)
walked-connected g x (e ∷ es) w h m = elim (member-cases h e es m) [
  | inl q ↦ subst (λ (z : ℕ). connected g.ends x (ends_of g z).0 ≡ true) q (elim (is_end-cases g x e w.0.1) [
    | inl f ↦ subst (λ (z : ℕ). connected g.ends x z ≡ true) (sym f) (connected-reflexive g.ends x)
    | inr f ↦ subst (λ (z : ℕ). connected g.ends z (ends_of g e).0 ≡ true) f (connected-symmetric g.ends (ends_of g e).0 (ends_of g e).1 (ends-connected g e w.0.0))
  ])
  | inr t ↦ connected-transitive g.ends x (other_end g e x) (ends_of g h).0 (other-connected g e x w.0.0 w.0.1) (walked-connected g (other_end g e x) es w.1 h t)
]

-- edges of one block are connected
pub block-connected : (g : Multigraph) (e f : ℕ) → SameBlock g e f → connected g.ends (ends_of g e).0 (ends_of g f).0 ≡ true
block-connected g e f s = elim s [
  | inl q ↦ subst (λ (z : ℕ). connected g.ends (ends_of g e).0 (ends_of g z).0 ≡ true) q (connected-reflexive g.ends (ends_of g e).0)
  | inr c ↦ connected-transitive g.ends (ends_of g e).0 c.start (ends_of g f).0
      (connected-symmetric g.ends c.start (ends_of g e).0 (walked-connected g c.start c.along c.cycle.walk e c.first_on))
      (walked-connected g c.start c.along c.cycle.walk f c.second_on)
]

-- places of the ends of edges among vertices that have them
module _ (g : Multigraph) (vertices edges : List ℕ) (within : (i : ℕ) → i < length edges → slice_index edges i < edge_count g) (held : HoldEnds g edges vertices) where
  -- the edge at place k
  abbrev at : ℕ → ℕ
  at k = slice_index edges k

  end-at : (k : ℕ) → k < length edges → get_or (part_made g vertices edges).graph.ends k (0, 0) ≡ (place_of vertices (ends_of g (at k)).0, place_of vertices (ends_of g (at k)).1)
  end-at k l = get_or-map (λ e. (place_of vertices (ends_of g e).0, place_of vertices (ends_of g e).1)) edges k 0 (0, 0) l

  first-in : (k : ℕ) → k < length edges → is_member (ends_of g (at k)).0 vertices ≡ true
  first-in k l = member-from_contains vertices (ends_of g (at k)).0 (ends-first g edges vertices k held l (within k l))

  second-in : (k : ℕ) → k < length edges → is_member (ends_of g (at k)).1 vertices ≡ true
  second-in k l = member-from_contains vertices (ends_of g (at k)).1 (ends-second g edges vertices k held l (within k l))

  pub made-ends : AreInnerEnds g edges vertices (part_made g vertices edges).graph.ends
  made-ends = record {
    each = length-map edges (λ e. (place_of vertices (ends_of g e).0, place_of vertices (ends_of g e).1));
    first_in = λ k l. subst (λ (p : ℕ × ℕ). p.0 < length vertices) (sym (end-at k l)) (place-below vertices (ends_of g (at k)).0 (first-in k l));
    first = λ k l. ap (λ (p : ℕ × ℕ). slice_index vertices p.0) (end-at k l) ∙ place-holds vertices (ends_of g (at k)).0 (first-in k l);
    second_in = λ k l. subst (λ (p : ℕ × ℕ). p.1 < length vertices) (sym (end-at k l)) (place-below vertices (ends_of g (at k)).1 (second-in k l));
    second = λ k l. ap (λ (p : ℕ × ℕ). slice_index vertices p.1) (end-at k l) ∙ place-holds vertices (ends_of g (at k)).1 (second-in k l);
  }

  -- the part that is made is the part on these vertices
  pub made-part : IsGraph g → IsWithinLimits g → Rises vertices → ((i : ℕ) → i < length vertices → slice_index vertices i < g.vertex_count) → Rises edges → IsPartOn g vertices edges (part_made g vertices edges)
  made-part ok limits rv inside re = record {
    vertices_are = refl;
    edges_are = refl;
    numbered = record {
      is_graph = inner-graph g edges vertices (part_made g vertices edges).graph.ends ok within made-ends;
      limits = inner-limits-by g edges vertices (part_made g vertices edges).graph.ends (length vertices) limits re within made-ends (omega (arith, limits.few_vertices, rises-short vertices g.vertex_count rv inside));
      vertex_each = refl;
      edge_each = sym made-ends.each;
      vertices_rise = rv;
      edges_rise = re;
    };
    ends = made-ends;
  }

-- increasing numbers that pass a test increase
pub filter-rises : (p : ℕ → Bool) (l : List ℕ) → Rises l → Rises (filter p l)
filter-rises p l r i j less within = AllPairs-filter (λ (x y : ℕ). x < y) p l
    (λ i j d a b. omega (arith, r i j a b, get_or_default l i d 0 (omega (arith, a, b)), get_or_default l j d 0 b)) i j 0 less within

module _ (g : Multigraph) (s : BlockStructure) (c : ℕ) (is : IsBlockStructure g s) where
  -- the vertices increase
  pub vertices-rise : Rises (component_vertices s c)
  vertices-rise i j l k = filter_below-rises (λ v. slice_index s.components v == c) (length s.components) i j 0 l k

  -- they are those with this number
  pub vertex-in : (v : ℕ) → is_member v (component_vertices s c) ≡ true → (v < g.vertex_count) × (slice_index s.components v ≡ c)
  vertex-in v m =
      let w = filter_below-only (λ v. slice_index s.components v == c) (length s.components) v (contains-from_member (component_vertices s c) v m) in
      (omega (arith, w.0, is.components.places), eqb-true (slice_index s.components v) c w.1)

  pub in-vertex : (v : ℕ) → v < g.vertex_count → slice_index s.components v ≡ c → is_member v (component_vertices s c) ≡ true
  in-vertex v l e = member-from_contains (component_vertices s c) v
      (filter_below-has (λ v. slice_index s.components v == c) (length s.components) v (omega (arith, l, is.components.places)) (eq-eqb (slice_index s.components v) c e))

  -- the edges increase
  pub edges-rise : Rises (component_edges g s c)
  edges-rise i j l k = filter_below-rises (has_edge g s c) (edge_count g) i j 0 l k

  -- they are those whose first end has this number
  pub edge-in : (e : ℕ) → is_member e (component_edges g s c) ≡ true → (e < edge_count g) × (slice_index s.components (ends_of g e).0 ≡ c)
  edge-in e m =
      let w = filter_below-only (has_edge g s c) (edge_count g) e (contains-from_member (component_edges g s c) e m) in
      (w.0, eqb-true (slice_index s.components (ends_of g e).0) c w.1)

  pub in-edge : (e : ℕ) → e < edge_count g → slice_index s.components (ends_of g e).0 ≡ c → is_member e (component_edges g s c) ≡ true
  in-edge e l q = member-from_contains (component_edges g s c) e (filter_below-has (has_edge g s c) (edge_count g) e l (eq-eqb (slice_index s.components (ends_of g e).0) c q))

  pub edge-within : (i : ℕ) → i < length (component_edges g s c) → slice_index (component_edges g s c) i < edge_count g
  edge-within i l = (edge-in (slice_index (component_edges g s c) i) (member-at (component_edges g s c) i 0 l)).0

  pub vertex-within : (i : ℕ) → i < length (component_vertices s c) → slice_index (component_vertices s c) i < g.vertex_count
  vertex-within i l = (vertex-in (slice_index (component_vertices s c) i) (member-at (component_vertices s c) i 0 l)).0

  -- the blocks increase
  pub blocks-rise : Rises (component_blocks g s c)
  blocks-rise i j l k = filter_below-rises (λ b. has_edge g s c (slice_index (block_at s.blocks b) 0)) (length s.blocks) i j 0 l k

  -- they are those whose least edge is in the component
  pub block-in : (b : ℕ) → is_member b (component_blocks g s c) ≡ true → (b < length s.blocks) × (slice_index s.components (ends_of g (slice_index (block_at s.blocks b) 0)).0 ≡ c)
  block-in b m =
      let w = filter_below-only (λ b. has_edge g s c (slice_index (block_at s.blocks b) 0)) (length s.blocks) b (contains-from_member (component_blocks g s c) b m) in
      (w.0, eqb-true (slice_index s.components (ends_of g (slice_index (block_at s.blocks b) 0)).0) c w.1)

  pub in-block : (b : ℕ) → b < length s.blocks → slice_index s.components (ends_of g (slice_index (block_at s.blocks b) 0)).0 ≡ c → is_member b (component_blocks g s c) ≡ true
  in-block b l q = member-from_contains (component_blocks g s c) b
      (filter_below-has (λ b. has_edge g s c (slice_index (block_at s.blocks b) 0)) (length s.blocks) b l (eq-eqb (slice_index s.components (ends_of g (slice_index (block_at s.blocks b) 0)).0) c q))

  -- the cut vertices increase
  pub cuts-rise : Rises (component_cuts s c)
  cuts-rise = filter-rises (λ v. slice_index s.components v == c) s.cut_vertices is.cut_vertices.rising

  -- a cut vertex of the component is one of its vertices
  pub cut-in : (v : ℕ) → is_member v (component_cuts s c) ≡ true → is_member v (component_vertices s c) ≡ true
  cut-in v m = let w = member-filter_parts (λ v. slice_index s.components v == c) s.cut_vertices v m in
      in-vertex v (is.cut_vertices.vertices v w.0) (eqb-true (slice_index s.components v) c w.1)

  -- and each cut vertex among its vertices is one of them
  pub in-cut : (v : ℕ) → is_member v (component_vertices s c) ≡ true → is_member v s.cut_vertices ≡ true → is_member v (component_cuts s c) ≡ true
  in-cut v m t = filter-member (λ v. slice_index s.components v == c) s.cut_vertices v t (eq-eqb (slice_index s.components v) c (vertex-in v m).1)

  module _ (ok : IsGraph g) where
    -- connected vertices are in one component
    pub connected-component : (u v : ℕ) → u < g.vertex_count → v < g.vertex_count → connected g.ends u v ≡ true → slice_index s.components u ≡ slice_index s.components v
    connected-component u v l k = (is.components.same u v l k).1

    -- each end of an edge of the component is in it
    pub end-component : (e v : ℕ) → is_member e (component_edges g s c) ≡ true → is_end g v e ≡ true → is_member v (component_vertices s c) ≡ true
    end-component e v m i = in-vertex v (end-in g v e ok w.0 i) (elim (is_end-cases g v e i) [
      | inl q ↦ ap (slice_index s.components) (sym q) ∙ w.1
      | inr q ↦ ap (slice_index s.components) (sym q) ∙ (sym (connected-component (ends_of g e).0 (ends_of g e).1 (ok.first_in e w.0) (ok.second_in e w.0) (ends-connected g e w.0)) ∙ w.1)
    ])
      where
        w : (e < edge_count g) × (slice_index s.components (ends_of g e).0 ≡ c)
        w = edge-in e m

    -- each edge at a vertex of the component is in it
    pub edge-component : (e v : ℕ) → e < edge_count g → is_end g v e ≡ true → is_member v (component_vertices s c) ≡ true → is_member e (component_edges g s c) ≡ true
    edge-component e v l i m = in-edge e l (elim (is_end-cases g v e i) [
      | inl q ↦ ap (slice_index s.components) q ∙ (vertex-in v m).1
      | inr q ↦ connected-component (ends_of g e).0 (ends_of g e).1 (ok.first_in e l) (ok.second_in e l) (ends-connected g e l) ∙ (ap (slice_index s.components) q ∙ (vertex-in v m).1)
    ])

    pub held : HoldEnds g (component_edges g s c) (component_vertices s c)
    held v w = contains-from_member (component_vertices s c) v (end-component w.edge v (member-from_contains (component_edges g s c) w.edge w.among) w.ends_there)

    -- edges of one block are in one component
    pub same-component : (e f : ℕ) → e < edge_count g → f < edge_count g → SameBlock g e f → slice_index s.components (ends_of g e).0 ≡ slice_index s.components (ends_of g f).0
    same-component e f l k q = connected-component (ends_of g e).0 (ends_of g f).0 (ok.first_in e l) (ok.first_in f k) (block-connected g e f q)

    -- the first edge of a block is one of it
    pub least-edge : (b : ℕ) → b < length s.blocks → is_member (slice_index (block_at s.blocks b) 0) (block_at s.blocks b) ≡ true
    least-edge b l = member-at (block_at s.blocks b) 0 0 (is.blocks.not_empty b l)

    -- edges of one block of the list are of one block
    pub edges-same : (b e f : ℕ) → b < length s.blocks → is_member e (block_at s.blocks b) ≡ true → is_member f (block_at s.blocks b) ≡ true → SameBlock g e f
    edges-same b e f l m n = (is.blocks.same b b e f l l m n).0 refl

    -- all edges of a block of the component are in it
    pub block-edge : (b e : ℕ) → is_member b (component_blocks g s c) ≡ true → is_member e (block_at s.blocks b) ≡ true → is_member e (component_edges g s c) ≡ true
    block-edge b e mb me =
        let w = block-in b mb in
        let l : e < edge_count g = is.blocks.edges b e w.0 me in
        let least = slice_index (block_at s.blocks b) 0 in
        in-edge e l (same-component e least l (is.blocks.edges b least w.0 (least-edge b w.0)) (edges-same b e least w.0 me (least-edge b w.0)) ∙ w.1)

    -- an edge is in the block that it has
    pub block_of-has : (e : ℕ) → e < edge_count g → (block_of s.blocks e < length s.blocks) × (is_member e (block_at s.blocks (block_of s.blocks e)) ≡ true)
    block_of-has e l =
        let w = is.blocks.each e l in
        let found : some (length s.blocks) (λ b. is_member e (block_at s.blocks b)) ≡ true = some-from (length s.blocks) (λ b. is_member e (block_at s.blocks b)) w.0 w.1 w.2 in
        (least-below (length s.blocks) (λ b. is_member e (block_at s.blocks b)) found, least-passes (length s.blocks) (λ b. is_member e (block_at s.blocks b)) found)

    -- and in no other
    pub block_of-is : (b e : ℕ) → b < length s.blocks → is_member e (block_at s.blocks b) ≡ true → block_of s.blocks e ≡ b
    block_of-is b e l m = let w = block_of-has e (is.blocks.edges b e l m) in (is.blocks.same (block_of s.blocks e) b e e w.0 l w.1 m).1 (inl refl)

    -- the block of an edge of the component is in it
    pub block_of-in : (e : ℕ) → is_member e (component_edges g s c) ≡ true → is_member (block_of s.blocks e) (component_blocks g s c) ≡ true
    block_of-in e m =
        let l = edge-in e m in
        let w = block_of-has e l.0 in
        let least = slice_index (block_at s.blocks (block_of s.blocks e)) 0 in
        in-block (block_of s.blocks e) w.0
        (same-component least e (is.blocks.edges (block_of s.blocks e) least w.0 (least-edge (block_of s.blocks e) w.0)) l.0 (edges-same (block_of s.blocks e) least e w.0 (least-edge (block_of s.blocks e) w.0) w.1) ∙ l.1)

    -- the table of blocks has it
    pub block_with-is : (e : ℕ) → is_member e (component_edges g s c) ≡ true → block_with (component_of g s c) e ≡ block_of s.blocks e
    block_with-is e m =
        get_or-map (block_of s.blocks) (component_edges g s c) (place_of (component_edges g s c) e) 0 0 (place-below (component_edges g s c) e m)
        ∙ ap (block_of s.blocks) (place-holds (component_edges g s c) e m)

    -- a component is the part that its vertices and edges make
    pub component-part : IsWithinLimits g → IsPartOn g (component_vertices s c) (component_edges g s c) (component_of g s c).part
    component-part limits = made-part g (component_vertices s c) (component_edges g s c) edge-within held ok limits vertices-rise vertex-within edges-rise
