-- A rotation system on a part of its graph, and the map of the part's darts.
use Rattle.std.proofs.Common.{ℕ, ◌/◌, ◌<◌, List, length, slice_index, sym, ap, ◌∙◌, subst, arith}
use Rattle.std.proofs.lemmas.List.Elements.{Contains-get_or}
use Rattle.permutations.specs.Exchange.{restricted}
use Rattle.permutations.proofs.Restriction.{restricted-permutes}
use Rattle.multigraph.specs.Graph.{Multigraph, IsGraph, edge_count, ends_of}
use Rattle.multigraph.specs.Part.{GraphPart, IsPart, IsEndOf}
use Rattle.multigraph.proofs.Places.{rises-once}
use Rattle.rotations.specs.Rotation.{IsRotationSystem}
use Rattle.graph_theory.proofs.Ends.{end-in}
use Rattle.dart_maps.specs.Map as maps
use Rattle.dart_maps.proofs.Renumber.{renumber-plane}
use Rattle.faces.specs.Euler.{dart_count, IsPlane}
use Rattle.faces.specs.Maps.{dart_after, dart_before}
use Rattle.faces.specs.Subgraph.{IsSubgraph, is_kept, IsRestriction}
use Rattle.faces.proofs.MapSteps.{map-permutes}
use Rattle.faces.proofs.MapCounts.{plane-map}
use Rattle.faces.proofs.MapParts.{place, renumbered, part-renumbering, part-plane}
use Rattle.faces.proofs.MapPartOrders.{part-orders}
use Rattle.block_planes.specs.Crossing.{IsPlaneOn}

module _ (g : Multigraph) (ok : IsGraph g) (edges : List ℕ) (inside : (i : ℕ) → i < length edges → slice_index edges i < edge_count g) (part : GraphPart) (h : IsPart g edges part) where
  -- the graph of the part is a subgraph
  pub part-subgraph : IsSubgraph part.graph g (slice_index part.edges) (slice_index part.vertices)
  part-subgraph = record {
    edges = λ i l. subst (λ e. slice_index e i < edge_count g) (sym h.edges_are) (inside i (omega (arith, l, h.numbered.edge_each, ap length h.edges_are)));
    edges_once = λ i j l k e. rises-once part.edges h.numbered.edges_rise i j (omega (arith, l, h.numbered.edge_each)) (omega (arith, k, h.numbered.edge_each)) e;
    vertices = λ v l. let w : IsEndOf g edges (slice_index part.vertices v) = (h.vertices (slice_index part.vertices v)).0 (Contains-get_or part.vertices v 0 (omega (arith, l, h.numbered.vertex_each))) in
        end-in g ok w.edge (slice_index part.vertices v) w.is_edge w.ends_there;
    vertices_once = λ u v l k e. rises-once part.vertices h.numbered.vertices_rise u v (omega (arith, l, h.numbered.vertex_each)) (omega (arith, k, h.numbered.vertex_each)) e;
    first_ends = λ i l. ap (λ e. (ends_of g (slice_index e i)).0) h.edges_are ∙ sym (h.ends.first i (omega (arith, l, h.ends.each)));
    second_ends = λ i l. ap (λ e. (ends_of g (slice_index e i)).1) h.edges_are ∙ sym (h.ends.second i (omega (arith, l, h.ends.each)));
  }

  module _ (r : List (List ℕ)) (s : IsRotationSystem g r) where
    -- a plane rotation system is plane on the part
    pub plane-on_part : IsPlane g r → IsPlaneOn part r
    plane-on_part p inner i left = part-plane part.graph g (slice_index part.edges) (slice_index part.vertices) r inner h.numbered.is_graph ok part-subgraph s i left p

    -- where a rotation system is plane on the part, the map of darts restricted to the part's edges is plane
    pub on_part-plane : IsPlaneOn part r → maps.IsPlane (edge_count g) (restricted (dart_count g) (λ d. is_kept part.graph (slice_index part.edges) (d / 2)) (dart_after g r))
    on_part-plane on = made (part-orders part.graph g (slice_index part.edges) (slice_index part.vertices) r h.numbered.is_graph ok part-subgraph s)
      where
        made : (inner : List (List ℕ)) × IsRotationSystem part.graph inner × IsRestriction part.graph (slice_index part.edges) (slice_index part.vertices) r inner
            → maps.IsPlane (edge_count g) (restricted (dart_count g) (λ d. is_kept part.graph (slice_index part.edges) (d / 2)) (dart_after g r))
        made w = renumber-plane (edge_count part.graph) (dart_after part.graph w.0) (dart_before part.graph w.0) (map-permutes part.graph w.0 h.numbered.is_graph w.1)
            (edge_count g) (restricted (dart_count g) (λ d. is_kept part.graph (slice_index part.edges) (d / 2)) (dart_after g r)) (restricted (dart_count g) (λ d. is_kept part.graph (slice_index part.edges) (d / 2)) (dart_before g r))
            (restricted-permutes (dart_count g) (λ d. is_kept part.graph (slice_index part.edges) (d / 2)) (dart_after g r) (dart_before g r) (map-permutes g r ok s))
            (λ d. is_kept part.graph (slice_index part.edges) (d / 2)) (renumbered (slice_index part.edges)) (renumbered (place part.graph (slice_index part.edges)))
            (part-renumbering part.graph g (slice_index part.edges) (slice_index part.vertices) r w.0 h.numbered.is_graph ok part-subgraph s w.1 w.2)
            (plane-map part.graph w.0 h.numbered.is_graph w.1 (on w.0 w.1 w.2))
