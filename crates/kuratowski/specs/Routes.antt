-- A graph whose vertices are vertices of another graph, and whose edges are paths of it, their routes; and its subdivisions,
-- carried over along these paths.
use Rattle.std.specs.Prelude.{◌≡◌, ◌≢◌, ℕ, ◌<◌, ◌⊎◌, true, false, ◌==◌, cond, List, [], ◌∷◌, ◌++◌, map, reverse, length, slice_index_or}
use Rattle.permutations.specs.Members.{is_member}
use Rattle.multigraph.specs.Graph.{Multigraph, edge_count, ends_of, other_end, numbers_below}
use Rattle.multigraph.specs.Part.{Rises}
use Rattle.graph_theory.specs.Path.{walk_vertices, IsPath}
use Rattle.kuratowski.specs.declared.subdivision.Pattern.{Pattern}
use Rattle.kuratowski.specs.Subdivision.{branch_at, path_at, pair_at, pattern_edges, inner_vertices}

-- the vertex of the outer graph that vertex x of the inner graph is
abbrev pub outer_vertex : List ℕ → ℕ → ℕ
outer_vertex vertex x = slice_index_or vertex x 0

-- the route of edge e
abbrev pub route_at : List (List ℕ) → ℕ → List ℕ
route_at routes e = slice_index_or routes e []

-- the vertex of the outer graph where the route of edge e begins: that of its first end
abbrev pub route_start : Multigraph → List ℕ → ℕ → ℕ
route_start inner vertex e = outer_vertex vertex (ends_of inner e).0

-- the vertex where it ends: that of the second end
abbrev pub route_end : Multigraph → List ℕ → ℕ → ℕ
route_end inner vertex e = outer_vertex vertex (ends_of inner e).1

-- all vertices of the route of edge e
abbrev pub route_vertices : Multigraph → Multigraph → List ℕ → List (List ℕ) → ℕ → List ℕ
route_vertices inner outer vertex routes e = walk_vertices outer (route_start inner vertex e) (route_at routes e)

-- z is where the route of edge e begins or ends
abbrev pub EndsRoute : Multigraph → List ℕ → ℕ → ℕ → Type 0
EndsRoute inner vertex e z = (route_start inner vertex e ≡ z) ⊎ (route_end inner vertex e ≡ z)

-- each vertex of the inner graph is a vertex of the outer one, in the same order, and for each edge of the inner graph there is
-- a route: a path of the outer graph from its first to its second end. A vertex that two routes share is an end of both, and no
-- route has a vertex of the inner graph inside
pub record AreRoutes (inner outer : Multigraph) (vertex : List ℕ) (routes : List (List ℕ)) : Type 0 where
  pub vertex_each : length vertex ≡ inner.vertex_count
  pub vertex_rises : Rises vertex
  pub vertex_in : (x : ℕ) → x < inner.vertex_count → outer_vertex vertex x < outer.vertex_count
  pub route_each : length routes ≡ edge_count inner
  pub are_paths : (e : ℕ) → e < edge_count inner → IsPath outer (route_start inner vertex e) (route_at routes e) (route_end inner vertex e)
  pub common : (e f z : ℕ) → e < edge_count inner → f < edge_count inner → e ≢ f → is_member z (route_vertices inner outer vertex routes e) ≡ true → is_member z (route_vertices inner outer vertex routes f) ≡ true
      → EndsRoute inner vertex e z × EndsRoute inner vertex f z
  pub inside : (e z : ℕ) → e < edge_count inner → is_member z (inner_vertices outer (route_start inner vertex e) (route_at routes e)) ≡ true → is_member z vertex ≡ false

-- the route of edge e from its end x on: reversed where x is the second end
abbrev pub route_from : Multigraph → List (List ℕ) → ℕ → ℕ → List ℕ
route_from inner routes e x = cond ((ends_of inner e).0 == x) (route_at routes e) (reverse (route_at routes e))

-- the routes of the edges of a walk from x, one after the other
abbrev pub lifted_walk : Multigraph → List (List ℕ) → ℕ → List ℕ → List ℕ
lifted_walk inner routes x [] = []
lifted_walk inner routes x (e ∷ es) = route_from inner routes e x ++ lifted_walk inner routes (other_end inner e x) es

-- path k of a subdivision, carried over
abbrev pub lifted_path : Multigraph → List (List ℕ) → Pattern → List ℕ → List (List ℕ) → ℕ → List ℕ
lifted_path inner routes kind branch paths k = lifted_walk inner routes (branch_at branch (pair_at kind k).0) (path_at paths k)

-- all paths of a subdivision, carried over
abbrev pub lifted_paths : Multigraph → List (List ℕ) → Pattern → List ℕ → List (List ℕ) → List (List ℕ)
lifted_paths inner routes kind branch paths = map (lifted_path inner routes kind branch paths) (numbers_below (length (pattern_edges kind)))

-- the branch vertices of a subdivision, carried over
abbrev pub lifted_branches : List ℕ → List ℕ → List ℕ
lifted_branches vertex branch = map (outer_vertex vertex) branch
