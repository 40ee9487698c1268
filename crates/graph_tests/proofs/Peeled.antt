-- What the shift method asks, of a triangulation and a canonical order of it.
use Rattle.std.proofs.Common.{◌≡◌, ℕ, ◌<◌, List, slice_index, refl}
use Rattle.multigraph.specs.Graph.{edge_count}
use Rattle.multigraph.specs.Darts.{twin, tail, dart_count}
use Rattle.triangulations.specs.Listed.{ListedMap}
use Rattle.canonical_orders.specs.Order.{Removed}
use Rattle.canonical_orders.specs.State.{IsTriangulatedMap, IsCanonicalOrderOf}
use Rattle.shift_method.specs.Peeled.{IsPeeled}
use Rattle.shift_method.proofs.Orders.{zero-below}

pub peeled : (t : ListedMap) (order : List Removed) → IsTriangulatedMap t → IsCanonicalOrderOf t order → (n left right : ℕ) → t.graph.vertex_count ≡ n → tail t.graph 0 ≡ left → tail t.graph (twin 0) ≡ right → IsPeeled n left right order
peeled t order i o n left right e f g = record {
  m = edge_count t.graph;
  h = t.graph;
  next = slice_index t.next;
  previous = slice_index t.previous;
  triangulated = i;
  number = e;
  first = f;
  last = g;
  canonical = o;
}

-- there is a dart
pub some-dart : (t : ListedMap) (order : List Removed) → IsTriangulatedMap t → IsCanonicalOrderOf t order → 0 < dart_count t.graph
unfolding peeled
some-dart t order i o = zero-below t.graph.vertex_count (tail t.graph 0) (tail t.graph (twin 0)) order (peeled t order i o t.graph.vertex_count (tail t.graph 0) (tail t.graph (twin 0)) refl refl refl)
