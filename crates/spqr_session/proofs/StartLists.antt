-- The lists that a start gives the vertices of a part: where each is an arrangement of the edges at its vertex, they arrange the part; and
-- of which rotation system of the part they are.
use Rattle.std.proofs.Common.{◌≡◌, ℕ, ◌<◌, true, List, [], ◌∷◌, length, map, filter, slice_index, slice_index_or, IsPermutation, Contains, refl, sym, ap, ◌∙◌, subst, arith}
use Rattle.std.proofs.lemmas.List.{get_or-map, get_or_default, length-map}
use Rattle.std.proofs.lemmas.List.Elements.{Contains-get_or}
use Rattle.std.proofs.lemmas.List.Sorted.{length_permutation, IsPermutation-map}
use Rattle.permutations.specs.Cyclic.{first_or, turned}
use Rattle.permutations.specs.Members.{is_member, is_distinct, place_of}
use Rattle.permutations.proofs.Places.{place-at, told-distinct}
use Rattle.permutations.proofs.Turned.{turned-own}
use Rattle.multigraph.specs.Graph.{Multigraph, edge_count, incident_edges, IsGraph}
use Rattle.multigraph.specs.Part.{GraphPart, IsNumbered, IsPart}
use Rattle.multigraph.proofs.OtherEnd.{end-in}
use Rattle.multigraph.proofs.Places.{rises-once}
use Rattle.rotations.specs.Entries.{entry, IsNamed}
use Rattle.rotations.specs.Rotation.{order_at, IsRotationSystem}
use Rattle.rotations.specs.PartLists.{outer_edges, outer_list, ArrangePart}
use Rattle.rotations.proofs.Cursor.{list_at-found}
use Rattle.rotations.proofs.Membership.{incident-distinct}
use Rattle.skel_embed.specs.Taken.{IsGiven}
use Rattle.spqr_session.specs.Start.{start_entries}
use Rattle.spqr_session.proofs.DisjointLists.{permutation-filter}
use Rattle.spqr_session.proofs.EdgesAt.{outer-at}

-- lists of equally many numbers with the same first number have the same first image
first-image : (f : ℕ → ℕ) (l k : List ℕ) → length l ≡ length k → first_or 0 l ≡ first_or 0 k → first_or 0 (map f l) ≡ first_or 0 (map f k)
first-image f [] [] e h = refl
first-image f [] (y ∷ k) e h = absurd (omega (arith, e))
first-image f (x ∷ l) [] e h = absurd (omega (arith, e))
first-image f (x ∷ l) (y ∷ k) e h = ap f h

-- the vertices of a part are different
pub vertices-distinct : (part : GraphPart) → IsNumbered part → is_distinct part.vertices ≡ true
vertices-distinct part n = told-distinct part.vertices (λ i j l m e. rises-once part.vertices n.vertices_rise i j l m e)

module _ (part : GraphPart) (numbered : IsNumbered part) (lists : List (List ℕ)) where
  -- the edges of the part in the list of a vertex
  abbrev kept_at : ℕ → List ℕ
  kept_at v = filter (λ e. is_member e part.edges) (slice_index_or lists v [])

  start-entry : (i : ℕ) → i < length part.vertices → entry (start_entries part lists) i ≡ (slice_index part.vertices i, kept_at (slice_index part.vertices i))
  start-entry i l = get_or-map (λ (v : ℕ). (v, kept_at v)) part.vertices i 0 (0, []) l

  start-long : length (start_entries part lists) ≡ length part.vertices
  start-long = length-map part.vertices (λ (v : ℕ). (v, kept_at v))

  -- the list that is given for a vertex of the part
  pub start-list : (i : ℕ) → i < part.graph.vertex_count → outer_list part (start_entries part lists) i ≡ filter (λ e. is_member e part.edges) (slice_index_or lists (slice_index part.vertices i) [])
  start-list i l =
      let i_in : i < length part.vertices = omega (arith, l, numbered.vertex_each) in
      let vertex : (j : ℕ) → j < length part.vertices → (entry (start_entries part lists) j).0 ≡ slice_index part.vertices j = λ j m. ap (λ (x : ℕ × List ℕ). x.0) (start-entry j m) in
      list_at-found (start_entries part lists) (slice_index part.vertices i) i (omega (arith, i_in, start-long))
      (λ j m e. omega (arith, m, rises-once part.vertices numbered.vertices_rise j i (omega (arith, m, i_in)) i_in (sym (vertex j (omega (arith, m, i_in))) ∙ e)))
      (vertex i i_in) ∙ ap (λ (x : ℕ × List ℕ). x.1) (start-entry i i_in)

  -- only vertices of the part are named
  pub start-named : (v : ℕ) → IsNamed (start_entries part lists) v → Contains part.vertices v
  start-named v n =
      let k_in : n.0 < length part.vertices = omega (arith, n.1, start-long) in
      let is : slice_index part.vertices n.0 ≡ v = sym (ap (λ (x : ℕ × List ℕ). x.0) (start-entry n.0 k_in)) ∙ n.2 in
      (n.0, k_in, get_or_default part.vertices n.0 v 0 k_in ∙ is)

  -- where at each vertex the list has the edges of the part in the order of a rotation system of the part, they are that system
  pub start-given : (r : List (List ℕ)) → IsRotationSystem part.graph r → ((i : ℕ) → i < part.graph.vertex_count → filter (λ e. is_member e part.edges) (slice_index_or lists (slice_index part.vertices i) []) ≡ map (slice_index part.edges) (order_at r i)) → IsGiven part (start_entries part lists) r
  start-given r system same = record {
    arranged = record {
      arranged = λ i l. subst (λ (o : List ℕ). IsPermutation (outer_edges part i) o) (sym (start-list i l ∙ same i l)) (IsPermutation-map (slice_index part.edges) (incident_edges part.graph i) (order_at r i) (system.orders i l).arranged);
      vertices = start-named;
    };
    system = system;
    orders = λ i l.
        let order = map (slice_index part.edges) (order_at r i) in
        let long : length (incident_edges part.graph i) ≡ length (order_at r i) = sym (length_permutation (incident_edges part.graph i) (order_at r i) (system.orders i l).arranged) in
        let first : first_or 0 (outer_edges part i) ≡ first_or 0 order = first-image (slice_index part.edges) (incident_edges part.graph i) (order_at r i) long (sym (system.orders i l).least_first) in
        sym (ap (λ (o : List ℕ). turned o (first_or 0 (outer_edges part i))) (start-list i l ∙ same i l) ∙ ap (turned order) first ∙ turned-own order);
  }

module _ (g : Multigraph) (is_graph : IsGraph g) (edges : List ℕ) (part : GraphPart) (h : IsPart g edges part) (within : (e : ℕ) → is_member e edges ≡ true → e < edge_count g) (lists : List (List ℕ)) where
  -- a vertex of the part is one of the graph
  pub part-vertex : (i : ℕ) → i < part.graph.vertex_count → slice_index part.vertices i < g.vertex_count
  part-vertex i l =
      let w = (h.vertices (slice_index part.vertices i)).0 (Contains-get_or part.vertices i 0 (omega (arith, l, h.numbered.vertex_each))) in
      end-in g (slice_index part.vertices i) w.edge is_graph w.is_edge w.ends_there

  -- the edges of the part at one of its vertices
  pub outer-own : (i : ℕ) → i < part.graph.vertex_count → outer_edges part i ≡ filter (λ e. is_member e part.edges) (incident_edges g (slice_index part.vertices i))
  outer-own i l =
      let v = slice_index part.vertices i in
      let at : place_of part.vertices v ≡ i = place-at part.vertices i (vertices-distinct part h.numbered) (omega (arith, l, h.numbered.vertex_each)) in
      ap (outer_edges part) (sym at) ∙ outer-at g edges part h within v ∙ ap (λ (es : List ℕ). filter (λ e. is_member e es) (incident_edges g v)) (sym h.edges_are)

  -- lists that are arrangements of the edges at their vertices arrange the part
  pub starts-arranged : ((v : ℕ) → v < g.vertex_count → IsPermutation (incident_edges g v) (slice_index_or lists v [])) → ArrangePart part (start_entries part lists)
  starts-arranged each = record {
    arranged = λ i l.
        let v = slice_index part.vertices i in
        subst (λ (o : List ℕ). IsPermutation (outer_edges part i) o) (sym (start-list part h.numbered lists i l))
        (subst (λ (o : List ℕ). IsPermutation o (filter (λ e. is_member e part.edges) (slice_index_or lists v []))) (sym (outer-own i l))
        (permutation-filter (λ e. is_member e part.edges) (incident_edges g v) (slice_index_or lists v []) (incident-distinct g v) (each v (part-vertex i l))));
    vertices = start-named part h.numbered lists;
  }
