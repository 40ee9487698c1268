-- Each graph with a triangulation that has a canonical order has a drawing on the grid.
use Rattle.std.proofs.Common.{◌≡◌, ℕ, ◌<◌, ◌≤◌, List, [], length, slice_index, slice_index_or, refl, ap, ◌∙◌, arith}
use Rattle.dart_maps.specs.Map.{twin}
use Rattle.multigraph.specs.Graph.{Multigraph, edge_count, IsGraph}
use Rattle.rotations.specs.Rotation.{IsRotationSystem}
use Rattle.faces.specs.Euler.{tail}
use Rattle.triangulations.specs.Listed.{ListedMap, IsTriangulationOf}
use Rattle.canonical_orders.specs.Order.{Removed}
use Rattle.canonical_orders.specs.State.{IsCanonicalOrderOf}
use Rattle.stacked_maps.proofs.Base.{base_is_drawn}
use Rattle.stacked_maps.proofs.Stacked.{stacking_keeps_drawings}
use Rattle.shift_method.specs.Shapes.{ShapeState}
use Rattle.shift_method.specs.Peeled.{IsPeeled, removed_at, KeepsAll, ArePositions}
use Rattle.shift_method.proofs.Stages.{whole, some-order, placed-at, all-drawn, positions}
use Rattle.shift_method.proofs.Reached.{vertex-below, inner-below, left-below, right-below}
use Rattle.grid_drawing.specs.Grid.{IsGridDrawing}
use Rattle.grid_drawing.proofs.OfMaps.{grid-drawn}
use Rattle.drawing_exists.proofs.Tables.{table, table-length, table-at}

module _ (g : Multigraph) (r : List (List ℕ)) (graph : IsGraph g) (system : IsRotationSystem g r) (three : 3 ≤ g.vertex_count) (t : ListedMap) (triangulation : IsTriangulationOf g r t) (order : List Removed) (canonical : IsCanonicalOrderOf t order) where
  abbrev n : ℕ
  n = g.vertex_count

  abbrev left : ℕ
  left = tail t.graph 0

  abbrev right : ℕ
  right = tail t.graph (twin 0)

  abbrev p : IsPeeled n left right order
  p = record {
    m = edge_count t.graph;
    h = t.graph;
    next = slice_index t.next;
    previous = slice_index t.previous;
    triangulated = triangulation.triangulated;
    number = triangulation.extends.vertices;
    first = refl;
    last = refl;
    canonical = canonical;
  }

  abbrev s : ShapeState
  s = whole n left right order p

  found : (x : ℕ → ℕ) × ArePositions n left right order s x
  found = positions n left right order p base_is_drawn stacking_keeps_drawings

  pub points : List (ℕ × ℕ)
  points = table (λ v. (found.0 v, slice_index s.height v)) n

  point-at : (v : ℕ) → v < n → slice_index_or points v (0, 0) ≡ (found.0 v, slice_index s.height v)
  unfolding points
  point-at v l = table-at {A = ℕ × ℕ} (λ v. (found.0 v, slice_index s.height v)) n v (0, 0) l

  abbrev x : ℕ → ℕ
  x v = (slice_index_or points v (0, 0)).0

  abbrev y : ℕ → ℕ
  y v = (slice_index_or points v (0, 0)).1

  x-at : (v : ℕ) → v < n → x v ≡ found.0 v
  x-at v l = ap (λ (q : ℕ × ℕ). q.0) (point-at v l)

  y-at : (v : ℕ) → v < n → y v ≡ slice_index s.height v
  y-at v l = ap (λ (q : ℕ × ℕ). q.1) (point-at v l)

  kept : KeepsAll x s order 0
  kept i l k v inner =
      omega (arith, found.1.kept i l k v inner, x-at v (inner-below n left right order p i k v inner), x-at (removed_at order i).0 (vertex-below n left right order p i k))

  size : length points ≡ n
  unfolding points
  size = table-length {A = ℕ × ℕ} (λ v. (found.0 v, slice_index s.height v)) n

  pub positioned : IsGridDrawing g r points
  positioned = grid-drawn g r (edge_count t.graph) t.graph (slice_index t.next) (slice_index t.previous) order (slice_index_or canonical.contours 0 []) points graph system three triangulation
      (all-drawn n left right order p base_is_drawn stacking_keeps_drawings x y
      (x-at left (left-below n left right order p) ∙ found.1.at_left)
      (x-at (removed_at order 0).0 (vertex-below n left right order p 0 (some-order n left right order p)) ∙ found.1.at_top)
      (x-at right (right-below n left right order p) ∙ found.1.at_right) kept y-at)
      size
      (λ v l. omega (arith, x-at v l, found.1.wide v l))
      (λ v l. let here = placed-at n left right order p 0 (omega arith) in omega (arith, y-at v l, here.high v))
