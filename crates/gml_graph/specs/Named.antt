-- A graph whose vertices have ids, with the start that its file gives.
use Rattle.std.specs.Prelude.{◌≡◌, ℕ, ◌<◌, ℤ, List, [], length, slice_index_or, Option, IfSome}
use Rattle.std.specs.List.{IsDistinct}
use Rattle.std.specs.List.Sorted.{IsPermutation}
use Rattle.std.specs.Ordering.{int_eq}
use Rattle.multigraph.specs.Graph.{Multigraph, incident_edges}

-- a multigraph, the id of each vertex, in order of the vertices, and where there is a start, a list of edges for each vertex
pub record NamedGraph : Type 0 where
  pub graph : Multigraph
  pub ids : List ℤ
  pub start : Option (List (List ℕ))

-- there is one list for each vertex, and each is a permutation of the edges at it
pub record ArrangeEdges (g : Multigraph) (lists : List (List ℕ)) : Type 0 where
  pub count : length lists ≡ g.vertex_count
  pub arranged : (v : ℕ) → v < g.vertex_count → IsPermutation (incident_edges g v) (slice_index_or lists v [])

-- each vertex has one id, and no two have the same; the lists of a start arrange the edges
pub record IsNamed (n : NamedGraph) : Type 0 where
  pub count : length n.ids ≡ n.graph.vertex_count
  pub distinct : IsDistinct int_eq n.ids
  pub start : IfSome n.start (ArrangeEdges n.graph)
