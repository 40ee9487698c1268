-- From a triangulation of a graph, a canonical order of it and what the shift method returns to a drawing of the graph on the grid.
use Rattle.std.proofs.Common.{◌≡◌, ℕ, ◌+◌, ◌*◌, ◌<◌, ◌≤◌, List, [], length, slice_index, slice_index_or, arith, sym, ◌∙◌}
use Rattle.dart_maps.specs.Map.{twin}
use Rattle.multigraph.specs.Graph.{Multigraph, IsGraph, edge_count}
use Rattle.rotations.specs.Rotation.{IsRotationSystem}
use Rattle.faces.specs.Euler.{tail, dart_count}
use Rattle.triangulations.specs.Listed.{ListedMap, IsTriangulationOf}
use Rattle.triangulations.specs.Triangulation.{IsTriangulated}
use Rattle.canonical_orders.specs.Order.{Removed, stays_after}
use Rattle.canonical_orders.specs.State.{IsCanonicalOrderOf}
use Rattle.stacked_maps.specs.Drawn.{IsDrawnUnder}
use Rattle.shift_method.specs.Peeled.{IsPeeled}
use Rattle.grid_drawing.specs.Grid.{IsGridDrawing}
use Rattle.grid_drawing.proofs.OfMaps.{dart-at, grid-drawn}

-- a triangulation has a dart
pub some-dart : (m : ℕ) (h : Multigraph) (next previous : ℕ → ℕ) → IsTriangulated m h next previous → 0 < dart_count h
some-dart m h next previous t = let d : (d : ℕ) × (d < 2 * m) × (tail h d ≡ 0) = dart-at m h next previous t 0 (omega (arith, t.map.three)) in omega (arith, d.1, t.map.drawn.edges)

module _ (g : Multigraph) (r : List (List ℕ)) (t : ListedMap) (order : List Removed) (n left right : ℕ) (points : List (ℕ × ℕ))
    (triangulation : IsTriangulationOf g r t) (canonical : IsCanonicalOrderOf t order) (number : n ≡ g.vertex_count) (first : left ≡ tail t.graph 0) (last : right ≡ tail t.graph (twin 0)) where
  -- the order is one of a triangulation, as the shift method asks
  abbrev pub peeled : IsPeeled n left right order
  peeled = record {
    m = edge_count t.graph;
    h = t.graph;
    next = slice_index t.next;
    previous = slice_index t.previous;
    triangulated = triangulation.triangulated;
    number = triangulation.extends.vertices ∙ sym number;
    first = sym first;
    last = sym last;
    canonical = canonical;
  }

  -- and what it returns is a drawing
  pub shifted : IsGraph g → IsRotationSystem g r → 3 ≤ g.vertex_count
      → ((p : IsPeeled n left right order) → IsDrawnUnder p.m p.h p.next 0 (stays_after p.h order 0) (slice_index_or p.canonical.contours 0 []) (λ v. slice_index_or points v (0, 0))) → length points ≡ n
      → ((v : ℕ) → v < n → (slice_index_or points v (0, 0)).0 + 4 ≤ 2 * n) → ((v : ℕ) → v < n → (slice_index_or points v (0, 0)).1 + 2 ≤ n) → IsGridDrawing g r points
  shifted graph system three drawn each wide high = grid-drawn g r (edge_count t.graph) t.graph (slice_index t.next) (slice_index t.previous) order (slice_index_or canonical.contours 0 []) points graph system three triangulation (drawn peeled) (each ∙ number)
      (λ v l. omega (arith, wide v (omega (arith, l, number)), number)) (λ v l. omega (arith, high v (omega (arith, l, number)), number))
