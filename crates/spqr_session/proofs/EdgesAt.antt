-- The edges of a part at a vertex of the whole graph: those edges at the vertex that are edges of the part.
use Rattle.std.proofs.Common.{◌≡◌, ℕ, ◌<◌, ◌&&◌, ◌==◌, Bool, true, List, [], ◌∷◌, length, filter, get_or, slice_index, inl, inr, sym, ap, ◌∙◌, subst, arith}
use Rattle.std.proofs.lemmas.Bool.{cases_Bool, eqb-true}
use Rattle.std.proofs.lemmas.List.{get_or-map, length-map}
use Rattle.permutations.specs.Members.{is_member, place_of}
use Rattle.permutations.proofs.Arrangements.{contains-from_member, member-at, member-from_contains}
use Rattle.permutations.proofs.Filter.{filter-member, member-filter_parts, filter-filter}
use Rattle.permutations.proofs.Mapped.{map-member, member-map}
use Rattle.permutations.proofs.Places.{place-below, place-holds}
use Rattle.multigraph.specs.Graph.{Multigraph, edge_count, ends_of, is_end, incident_edges, numbers_below}
use Rattle.multigraph.specs.Part.{GraphPart, Rises, IsPart}
use Rattle.multigraph.proofs.Below.{filter_below-rises}
use Rattle.multigraph.proofs.Incident.{incident-rises, incident_at-edge}
use Rattle.multigraph.proofs.OtherEnd.{is_end-cases, is_end-from_first, is_end-from_second, end-in}
use Rattle.multigraph.proofs.Places.{rises-once}
use Rattle.graph_theory.proofs.Rising.{members-same}
use Rattle.rotations.proofs.Membership.{incident-member, member-edge, member-end}
use Rattle.rotations.specs.PartLists.{outer_edges}

-- at its place a number is found, if the place is one of the list
pub place-back : (l : List ℕ) (x : ℕ) → place_of l x < length l → get_or l (place_of l x) 0 ≡ x
place-back [] x m = absurd (omega (arith, m))
place-back (y ∷ l) x m = elim (cases_Bool (y == x)) [
  | inl e ↦ rw e (eqb-true y x e)
  | inr n ↦ rw n (let t = rw n at m in place-back l x (omega (arith, t)))
]

-- those of the edges at a vertex that pass a test rise
pub filter_incident-rises : (g : Multigraph) (p : ℕ → Bool) (v : ℕ) → Rises (filter p (incident_edges g v))
filter_incident-rises g p v =
    subst (λ (l : List ℕ). Rises l) (sym (filter-filter p (is_end g v) (numbers_below (edge_count g)))) (λ i j l m. filter_below-rises (λ e. is_end g v e && p e) (edge_count g) i j 0 l m)

module _ (g : Multigraph) (edges : List ℕ) (part : GraphPart) (h : IsPart g edges part) (within : (e : ℕ) → is_member e edges ≡ true → e < edge_count g) where
  -- whether an edge is one of the part
  abbrev pub of_part : ℕ → Bool
  of_part e = is_member e edges

  -- the place of a vertex among those of the part
  abbrev place : ℕ → ℕ
  place v = place_of part.vertices v

  part-edge : (k : ℕ) → k < edge_count part.graph → k < length edges
  part-edge k l = omega (arith, l, h.ends.each)

  -- an edge of the part at a vertex is an edge there
  end-outer : (v k : ℕ) → k < length edges → place v < length part.vertices → is_end part.graph (place v) k ≡ true → is_end g v (slice_index edges k) ≡ true
  end-outer v k lk lv e = elim (is_end-cases part.graph (place v) k e) [
    | inl q ↦ is_end-from_first g v (slice_index edges k) (sym (h.ends.first k lk) ∙ ap (slice_index part.vertices) q ∙ place-back part.vertices v lv)
    | inr q ↦ is_end-from_second g v (slice_index edges k) (sym (h.ends.second k lk) ∙ ap (slice_index part.vertices) q ∙ place-back part.vertices v lv)
  ]

  -- and the other way around
  end-inner : (v k : ℕ) → k < length edges → place v < length part.vertices → is_end g v (slice_index edges k) ≡ true → is_end part.graph (place v) k ≡ true
  end-inner v k lk lv e = elim (is_end-cases g v (slice_index edges k) e) [
    | inl q ↦ is_end-from_first part.graph (place v) k (rises-once part.vertices h.numbered.vertices_rise (ends_of part.graph k).0 (place v) (h.ends.first_in k lk) lv (h.ends.first k lk ∙ q ∙ sym (place-back part.vertices v lv)))
    | inr q ↦ is_end-from_second part.graph (place v) k (rises-once part.vertices h.numbered.vertices_rise (ends_of part.graph k).1 (place v) (h.ends.second_in k lk) lv (h.ends.second k lk ∙ q ∙ sym (place-back part.vertices v lv)))
  ]

  -- the edges of the part at a vertex are edges of it, and there
  outer-from : (v z : ℕ) → is_member z (outer_edges part (place v)) ≡ true → is_member z (filter of_part (incident_edges g v)) ≡ true
  outer-from v z m =
      let w = map-member (slice_index part.edges) (incident_edges part.graph (place v)) z m in
      let at_edge : w.0 < edge_count part.graph = member-edge part.graph (place v) w.0 w.1 in
      let at_end : is_end part.graph (place v) w.0 ≡ true = member-end part.graph (place v) w.0 w.1 in
      let at_vertex : place v < length part.vertices = omega (arith, end-in part.graph (place v) w.0 h.numbered.is_graph at_edge at_end, h.numbered.vertex_each) in
      let is : slice_index edges w.0 ≡ z = ap (λ (l : List ℕ). slice_index l w.0) (sym h.edges_are) ∙ w.2 in
      let there : is_member z edges ≡ true = subst (λ (x : ℕ). is_member x edges ≡ true) is (member-at edges w.0 0 (part-edge w.0 at_edge)) in
      let ends : is_end g v z ≡ true = subst (λ (x : ℕ). is_end g v x ≡ true) is (end-outer v w.0 (part-edge w.0 at_edge) at_vertex at_end) in
      filter-member of_part (incident_edges g v) z (incident-member g v z (within z there) ends) there

  -- an end of an edge of the part is a vertex of it
  pub vertex-of : (v z : ℕ) → is_member z edges ≡ true → is_end g v z ≡ true → is_member v part.vertices ≡ true
  vertex-of v z there ends =
      member-from_contains part.vertices v ((h.vertices v).1 (record { edge = z; among = contains-from_member edges z there; is_edge = within z there; ends_there = ends }))

  outer-to : (v z : ℕ) → is_member z (filter of_part (incident_edges g v)) ≡ true → is_member z (outer_edges part (place v)) ≡ true
  outer-to v z m =
      let both = member-filter_parts of_part (incident_edges g v) z m in
      let there : is_member z edges ≡ true = both.1 in
      let ends : is_end g v z ≡ true = member-end g v z both.0 in
      let k = place_of edges z in
      let at_edge : k < length edges = place-below edges z there in
      let is : slice_index edges k ≡ z = place-holds edges z there in
      let at_vertex : place v < length part.vertices = place-below part.vertices v (vertex-of v z there ends) in
      let inner : is_member k (incident_edges part.graph (place v)) ≡ true = incident-member part.graph (place v) k (omega (arith, at_edge, h.ends.each)) (end-inner v k at_edge at_vertex (subst (λ (x : ℕ). is_end g v x ≡ true) (sym is) ends)) in
      subst (λ (x : ℕ). is_member x (outer_edges part (place v)) ≡ true) (ap (λ (l : List ℕ). slice_index l k) h.edges_are ∙ is) (member-map (slice_index part.edges) (incident_edges part.graph (place v)) k inner)

  outer-rises : (v : ℕ) → Rises (outer_edges part (place v))
  outer-rises v i j less l =
      let inc = incident_edges part.graph (place v) in
      let long : length (outer_edges part (place v)) ≡ length inc = length-map inc (slice_index part.edges) in
      let j_in : j < length inc = omega (arith, l, long) in
      let i_in : i < length inc = omega (arith, less, j_in) in
      let at_i : get_or (outer_edges part (place v)) i 0 ≡ slice_index part.edges (get_or inc i 0) = get_or-map (slice_index part.edges) inc i 0 0 i_in in
      let at_j : get_or (outer_edges part (place v)) j 0 ≡ slice_index part.edges (get_or inc j 0) = get_or-map (slice_index part.edges) inc j 0 0 j_in in
      let edge : get_or inc j 0 < length part.edges = omega (arith, incident_at-edge part.graph (place v) j 0 j_in, h.numbered.edge_each) in
      let rise : slice_index part.edges (get_or inc i 0) < slice_index part.edges (get_or inc j 0) = h.numbered.edges_rise (get_or inc i 0) (get_or inc j 0) (incident-rises part.graph (place v) i j 0 less j_in) edge in
      omega (arith, at_i, at_j, rise)

  -- so they are those of the edges at the vertex that the part has
  pub outer-at : (v : ℕ) → outer_edges part (place_of part.vertices v) ≡ filter of_part (incident_edges g v)
  outer-at v = members-same (outer_edges part (place v)) (filter of_part (incident_edges g v)) (outer-rises v) (filter_incident-rises g of_part v) (outer-from v) (outer-to v)
