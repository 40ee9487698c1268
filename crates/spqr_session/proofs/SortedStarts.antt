-- What the blocks are given of a start is what the definitions say: of each vertex of a block, in increasing order, the edges of the block
-- in its list.
use Rattle.std.proofs.Common.{◌≡◌, ℕ, ◌+◌, ◌<◌, ◌==◌, Bool, true, List, [], ◌∷◌, length, map, filter, slice_index, slice_index_or, Option, None, Some, option_map, unwrap_or, IfSome, All, refl, sym, ap, ◌∙◌, subst}
use Rattle.std.proofs.lemmas.List.Elements.{All-from_get_or}
use Rattle.permutations.specs.Members.{is_member}
use Rattle.permutations.proofs.Arrangements.{permutation-member, member-at, contains-from_member, member-from_contains}
use Rattle.permutations.proofs.Filter.{filter-ext, filter-member, member-filter_parts}
use Rattle.permutations.proofs.Members.{member-head, member-tail}
use Rattle.multigraph.specs.Graph.{Multigraph, edge_count, is_end, incident_edges, numbers_below, IsGraph}
use Rattle.multigraph.specs.Part.{GraphPart, IsPart}
use Rattle.multigraph.proofs.Below.{filter_below-rises, filter_below-has, filter_below-only}
use Rattle.multigraph.proofs.OtherEnd.{end-in}
use Rattle.graph_theory.proofs.Rising.{members-same}
use Rattle.blocks.specs.Blocks.{block_at, AreBlocks}
use Rattle.rotations.specs.Entries.{IsAbove}
use Rattle.rotations.proofs.Membership.{incident-member, member-edge, member-end}
use Rattle.gml_graph.specs.Named.{NamedGraph, IsNamed, ArrangeEdges}
use Rattle.spqr_session.specs.Start.{start_entries}
use Rattle.spqr_session.specs.Starting.{AreStartLists}
use Rattle.spqr_session.specs.Sorting.{HasBlocks, IsKnown, of_block, has_some, AreEntered, gathered, AreGathered}
use Rattle.spqr_session.proofs.EdgesAt.{vertex-of}
use Rattle.spqr_session.proofs.SortedEdges.{table-tells, edge-known, some-member, member-some, gathered-above, gathered-next}

-- functions that agree on the members of a list give the same images
map-agree : {X : Type 0} (f h : ℕ → X) (l : List ℕ) → ((x : ℕ) → is_member x l ≡ true → f x ≡ h x) → map f l ≡ map h l
map-agree f h [] same = λ i. []
map-agree f h (x ∷ l) same = λ i. same x (member-head x l) i ∷ map-agree f h l (λ y m. same y (member-tail y x l m)) i

-- the lists of a start from which a vertex is given its list
pub given-at : (o : Option (List (List ℕ))) (v : ℕ) (list : List ℕ) → Some list ≡ option_map (λ (lists : List (List ℕ)). slice_index_or lists v []) o → (starts : List (List ℕ)) × (o ≡ Some starts) × (list ≡ slice_index_or starts v [])
given-at None v list e = absurd (cc)
given-at (Some starts) v list e = (starts, refl, ap (λ (x : Option (List ℕ)). unwrap_or x []) e)

pub given-list : (o : Option (List (List ℕ))) (v : ℕ) (list : List ℕ) (starts : List (List ℕ)) → Some list ≡ option_map (λ (lists : List (List ℕ)). slice_index_or lists v []) o → o ≡ Some starts → list ≡ slice_index_or starts v []
given-list o v list starts e q = ap (λ (x : Option (List ℕ)). unwrap_or x []) (e ∙ ap (option_map (λ (lists : List (List ℕ)). slice_index_or lists v [])) q)

-- there is a list where there is a start
pub given-none : (o : Option (List (List ℕ))) (v : ℕ) (starts : List (List ℕ)) → None ≡ option_map (λ (lists : List (List ℕ)). slice_index_or lists v []) o → o ≡ Some starts → ⊥
given-none None v starts e q = absurd (cc)
given-none (Some lists) v starts e q = absurd (cc)

-- a start arranges the edges
pub named-arranges : (named : NamedGraph) (starts : List (List ℕ)) → IsNamed named → named.start ≡ Some starts → ArrangeEdges named.graph starts
named-arranges named starts is e = subst (λ (o : Option (List (List ℕ))). IfSome o (ArrangeEdges named.graph)) e is.start

module _ (g : Multigraph) (is_graph : IsGraph g) (blocks : List (List ℕ)) (are : AreBlocks g blocks) (table : List ℕ) (h : HasBlocks (edge_count g) blocks (length blocks) table) (starts : List (List ℕ)) (arrange : ArrangeEdges g starts) where
  -- the list of a vertex
  abbrev start_at : ℕ → List ℕ
  start_at v = slice_index_or starts v []

  -- it has the edges there
  start-edge : (v e : ℕ) → v < g.vertex_count → is_member e (start_at v) ≡ true → is_member e (incident_edges g v) ≡ true
  start-edge v e l m = sym (permutation-member (incident_edges g v) (start_at v) e (arrange.arranged v l)) ∙ m

  start-has : (v e : ℕ) → v < g.vertex_count → e < edge_count g → is_end g v e ≡ true → is_member e (start_at v) ≡ true
  start-has v e l m i = permutation-member (incident_edges g v) (start_at v) e (arrange.arranged v l) ∙ incident-member g v e m i

  -- the table has a block for each of them
  pub start-known : (v i : ℕ) → v < g.vertex_count → i < length (start_at v) → IsKnown table (length blocks) (slice_index (start_at v) i)
  start-known v i l m =
      let e = slice_index (start_at v) i in
      edge-known g blocks are table h e (member-edge g v e (start-edge v e l (member-at (start_at v) i 0 m)))

  pub all-known : (v : ℕ) → v < g.vertex_count → All (IsKnown table (length blocks)) (slice_index_or starts v [])
  all-known v l = All-from_get_or (IsKnown table (length blocks)) (start_at v) 0 (λ i m. start-known v i l m)

  module _ (b : ℕ) (within : b < length blocks) (part : GraphPart) (is : IsPart g (block_at blocks b) part) where
    edges : List ℕ
    edges = block_at blocks b

    edge-in : (e : ℕ) → is_member e (block_at blocks b) ≡ true → e < edge_count g
    edge-in e m = are.edges b e within m

    -- those of them that are of the block
    same-edges : (v : ℕ) → v < g.vertex_count → of_block table b (start_at v) ≡ filter (λ e. is_member e (block_at blocks b)) (start_at v)
    same-edges v l = filter-ext (λ e. slice_index table e == b) (λ e. is_member e (block_at blocks b)) (start_at v) (λ e m. table-tells g blocks are table h b e within (member-edge g v e (start-edge v e l m)))

    abbrev meets : ℕ → Bool
    meets v = has_some (of_block table b (start_at v))

    -- a vertex has edges of the block where it is one of the part
    meets-vertex : (v : ℕ) → v < g.vertex_count → meets v ≡ true → is_member v part.vertices ≡ true
    meets-vertex v l t =
        let w = member-some (of_block table b (start_at v)) t in
        let both = member-filter_parts (λ e. is_member e (block_at blocks b)) (start_at v) w.0 (subst (λ (o : List ℕ). is_member w.0 o ≡ true) (same-edges v l) w.1) in
        vertex-of g (block_at blocks b) part is edge-in v w.0 both.1 (member-end g v w.0 (start-edge v w.0 l both.0))

    vertex-meets : (v : ℕ) → is_member v part.vertices ≡ true → (v < g.vertex_count) × (meets v ≡ true)
    vertex-meets v m =
        let w = (is.vertices v).0 (contains-from_member part.vertices v m) in
        let l : v < g.vertex_count = end-in g v w.edge is_graph w.is_edge w.ends_there in
        let there : is_member w.edge (block_at blocks b) ≡ true = member-from_contains (block_at blocks b) w.edge w.among in (
          l,
          some-member (of_block table b (start_at v)) w.edge (subst (λ (o : List ℕ). is_member w.edge o ≡ true) (sym (same-edges v l))
              (filter-member (λ e. is_member e (block_at blocks b)) (start_at v) w.edge (start-has v w.edge l w.is_edge w.ends_there) there)),
        )

    -- so these are the vertices of the part
    met-vertices : filter meets (numbers_below g.vertex_count) ≡ part.vertices
    met-vertices = members-same (filter meets (numbers_below g.vertex_count)) part.vertices
        (λ i j l m. filter_below-rises meets g.vertex_count i j 0 l m) is.numbered.vertices_rise
        (λ v m. let w = filter_below-only meets g.vertex_count v (contains-from_member (filter meets (numbers_below g.vertex_count)) v m) in meets-vertex v w.0 w.1)
        (λ v m. let w = vertex-meets v m in member-from_contains (filter meets (numbers_below g.vertex_count)) v (filter_below-has meets g.vertex_count v w.0 w.1))

    -- and their entries those of the start
    pub gathered-start : gathered table starts b g.vertex_count ≡ start_entries part starts
    gathered-start =
        ap (map (λ (v : ℕ). (v, of_block table b (start_at v)))) met-vertices
        ∙ map-agree (λ (v : ℕ). (v, of_block table b (start_at v))) (λ (v : ℕ). (v, filter (λ e. is_member e part.edges) (start_at v))) part.vertices
        (λ v m i. (v, (same-edges v (vertex-meets v m).0 ∙ ap (λ (es : List ℕ). filter (λ e. is_member e es) (start_at v)) (sym is.edges_are)) i))

  -- for all blocks
  pub starts-sorted : (lists : List (List (ℕ × List ℕ))) → AreGathered table starts g.vertex_count (length blocks) lists → AreStartLists g blocks starts (length blocks) lists
  starts-sorted lists all = record { one_each = all.counted; each = λ b part l is. all.each b l ∙ gathered-start b l part is }

-- ---- the list of one vertex

module _ (named : NamedGraph) (is_graph : IsGraph named.graph) (is : IsNamed named) (blocks : List (List ℕ)) (are : AreBlocks named.graph blocks) (table : List ℕ) (h : HasBlocks (edge_count named.graph) blocks (length blocks) table) (v : ℕ) (list : List ℕ) (given : Some list ≡ option_map (λ (lists : List (List ℕ)). slice_index_or lists v []) named.start) where
  -- the table has a block for each of its edges
  pub list-known : v < named.graph.vertex_count → All (IsKnown table (length blocks)) list
  list-known l =
      let w = given-at named.start v list given in
      subst (All (IsKnown table (length blocks))) (sym w.2) (all-known named.graph is_graph blocks are table h w.0 (named-arranges named w.0 is w.1) v l)

  -- the entries so far are of smaller vertices
  pub list-above : (lists : List (List (ℕ × List ℕ))) → ((starts : List (List ℕ)) → named.start ≡ Some starts → AreGathered table starts v (length blocks) lists) → (b : ℕ) → b < length blocks → IsAbove (slice_index_or lists b []) v
  list-above lists gathered b l =
      let w = given-at named.start v list given in
      subst (λ (e : List (ℕ × List ℕ)). IsAbove e v) (sym ((gathered w.0 w.1).each b l)) (gathered-above table w.0 b v)

  -- with its entries there are those of one vertex more
  pub list-entered : (before lists : List (List (ℕ × List ℕ))) → ((starts : List (List ℕ)) → named.start ≡ Some starts → AreGathered table starts v (length blocks) before) → AreEntered table list v (length blocks) before lists
      → (starts : List (List ℕ)) → named.start ≡ Some starts → AreGathered table starts (v + 1) (length blocks) lists
  list-entered before lists gathered entered starts e =
      gathered-next table starts v (length blocks) before lists (gathered starts e) (subst (λ (l : List ℕ). AreEntered table l v (length blocks) before lists) (given-list named.start v list starts given e) entered)
