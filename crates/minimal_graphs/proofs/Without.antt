-- The part of a triconnected graph that all edges but one make: its vertices are those of the graph, it is one block, and a
-- subdivision that has not this edge is one of the part.
use Rattle.std.proofs.Common.{◌≡◌, ℕ, ◌<◌, inl, inr, true, not, ◌==◌, List, length, map, slice_index, get_or, sym, ap, ap₂, ◌∙◌, subst, arith, Contains}
use Rattle.std.proofs.lemmas.Bool.{cases_Bool, both_ways}
use Rattle.std.proofs.lemmas.List.{get_or_default}
use Rattle.std.proofs.lemmas.List.Elements.{Contains-get_or}
use Rattle.permutations.specs.Members.{is_member, place_of}
use Rattle.permutations.proofs.Arrangements.{member-at}
use Rattle.permutations.proofs.Places.{place-below, place-holds}
use Rattle.multigraph.specs.Graph.{Multigraph, IsGraph, edge_count, ends_of, numbers_below}
use Rattle.multigraph.specs.Part.{GraphPart, IsPart, IsEndOf, Rises}
use Rattle.multigraph.proofs.Below.{length-numbers_below, get_or-numbers_below, filter_below-has}
use Rattle.graph_theory.specs.Block.{IsOneBlock}
use Rattle.graph_theory.specs.Triconnected.{IsTriconnected}
use Rattle.graph_theory.proofs.Ends.{end-in}
use Rattle.graph_theory.proofs.Rising.{HasAll, rises-same}
use Rattle.faces.specs.Euler.{IsPlaneSystem}
use Rattle.kuratowski.specs.Subdivision.{IsSubdivision}
use Rattle.kuratowski.specs.declared.subdivision.Pattern.{Pattern}
use Rattle.planarity.proofs.SubdivisionLists.{all_edges, edges-member}
use Rattle.planarity.proofs.SubdivisionExcludes.{subdivision-excludes}
use Rattle.minimal_graphs.specs.Whole.{all_but}
use Rattle.minimal_graphs.proofs.Renamed.{Renames, renamed-subdivision}
use Rattle.minimal_graphs.proofs.OneLess.{other_edge-at, passes, one_less-block}

-- a number that is contained is a member
contained : (l : List ℕ) (x : ℕ) → Contains l x → is_member x l ≡ true
contained l x c = subst (λ z. is_member z l ≡ true) (get_or_default l c.0 0 x c.1 ∙ c.2) (member-at l c.0 0 c.1)

-- the numbers below n increase
numbers-rise : (n : ℕ) → Rises (numbers_below n)
numbers-rise n i j l m =
    let k : j < n = omega (arith, m, length-numbers_below n) in
    omega (arith, l, get_or-numbers_below n i 0 (omega (arith, l, k)), get_or-numbers_below n j 0 k)

module _ (g : Multigraph) (ok : IsGraph g) (tri : IsTriconnected g) (e : ℕ) (le : e < edge_count g) (part : GraphPart) (h : IsPart g (all_but (edge_count g) e) part) where
  -- each vertex is one of the part
  vertex-in : (v : ℕ) → v < g.vertex_count → Contains part.vertices v
  vertex-in v l =
      let f = other_edge-at g ok tri e v l in
      (h.vertices v).1 (record { edge = f.0; among = filter_below-has (λ k. not (k == e)) (edge_count g) f.0 f.1 (passes e f.0 f.2); is_edge = f.1; ends_there = f.3 })

  vertex-below : (v : ℕ) → Contains part.vertices v → v < g.vertex_count
  vertex-below v c = let w : IsEndOf g (all_but (edge_count g) e) v = (h.vertices v).0 c in end-in g ok w.edge v w.is_edge w.ends_there

  vertices-are : part.vertices ≡ numbers_below g.vertex_count
  vertices-are = rises-same part.vertices (numbers_below g.vertex_count) h.numbered.vertices_rise (numbers-rise g.vertex_count) there back
    where
      there : HasAll part.vertices (numbers_below g.vertex_count)
      there i l =
          let v : get_or part.vertices i 0 < g.vertex_count = vertex-below (get_or part.vertices i 0) (Contains-get_or part.vertices i 0 l) in
          (get_or part.vertices i 0, omega (arith, v, length-numbers_below g.vertex_count), get_or-numbers_below g.vertex_count (get_or part.vertices i 0) 0 v)

      back : HasAll (numbers_below g.vertex_count) part.vertices
      back i l =
          let k : i < g.vertex_count = omega (arith, l, length-numbers_below g.vertex_count) in
          let c = vertex-in i k in
          (c.0, c.1, get_or_default part.vertices c.0 0 i c.1 ∙ c.2 ∙ sym (get_or-numbers_below g.vertex_count i 0 k))

  -- the vertices have the same numbers
  pub same-count : part.graph.vertex_count ≡ g.vertex_count
  same-count = sym h.numbered.vertex_each ∙ ap (λ (l : List ℕ). length l) vertices-are ∙ length-numbers_below g.vertex_count

  same-vertex : (v : ℕ) → v < length part.vertices → slice_index part.vertices v ≡ v
  same-vertex v l = ap (λ (z : List ℕ). slice_index z v) vertices-are
      ∙ get_or-numbers_below g.vertex_count v 0 (omega (arith, l, h.numbered.vertex_each, same-count))

  abbrev number : ℕ → ℕ
  number f = place_of (all_but (edge_count g) e) f

  kept : (f : ℕ) → f < edge_count g → not (f == e) ≡ true → is_member f (all_but (edge_count g) e) ≡ true
  kept f l q = contained (all_but (edge_count g) e) f (filter_below-has (λ k. not (k == e)) (edge_count g) f l q)

  renames : Renames g part.graph (λ f. not (f == e)) number
  renames = record {
    edge_in = λ f l q. omega (arith, place-below (all_but (edge_count g) e) f (kept f l q), h.ends.each);
    same_ends = λ f l q.
        let k : number f < length (all_but (edge_count g) e) = place-below (all_but (edge_count g) e) f (kept f l q) in
        let at : slice_index (all_but (edge_count g) e) (number f) ≡ f = place-holds (all_but (edge_count g) e) f (kept f l q) in
        ap₂ (λ (a b : ℕ). (a, b))
        (sym (same-vertex (ends_of part.graph (number f)).0 (h.ends.first_in (number f) k)) ∙ h.ends.first (number f) k ∙ ap (λ z. (ends_of g z).0) at)
        (sym (same-vertex (ends_of part.graph (number f)).1 (h.ends.second_in (number f) k)) ∙ h.ends.second (number f) k ∙ ap (λ z. (ends_of g z).1) at);
  }

  pub without-block : IsOneBlock part.graph
  without-block = one_less-block g ok tri e le part.graph h.numbered.is_graph number renames same-count

  -- where the part has a plane rotation system, each subdivision of the graph has edge e
  pub needed-edge : (r : List (List ℕ)) → IsPlaneSystem part.graph r → (kind : Pattern) (branch : List ℕ) (paths : List (List ℕ)) → IsSubdivision g kind branch paths → is_member e (all_edges paths) ≡ true
  needed-edge r p kind branch paths s = elim (cases_Bool (is_member e (all_edges paths))) [
    | inl t ↦ t
    | inr n ↦ absurd (subdivision-excludes part.graph r h.numbered.is_graph p.system p.plane kind branch (map (map number) paths)
        (renamed-subdivision g part.graph (λ f. not (f == e)) number renames same-count kind branch paths s
        (λ k f l m. passes e f (λ q. both_ways (is_member e (all_edges paths)) n (subst (λ z. is_member z (all_edges paths) ≡ true) q (edges-member paths k f l m))))))
  ]
