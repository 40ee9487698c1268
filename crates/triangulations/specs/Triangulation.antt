-- A connected simple graph with a plane rotation system, and a map that adds edges to it until each face is a triangle.
use Rattle.std.specs.Prelude.{◌≡◌, ℕ, ◌*◌, ◌<◌, ◌≤◌, nat_lt, List, ◌++◌}
use Rattle.permutations.specs.Exchange.{restricted}
use Rattle.dart_maps.specs.Map.{twin, face}
use Rattle.multigraph.specs.Graph.{Multigraph, IsGraph}
use Rattle.graph_theory.specs.Connected.{IsConnected}
use Rattle.faces.specs.Euler.{tail, dart_count}
use Rattle.faces.specs.Maps.{dart_after}
use Rattle.drawn_maps.specs.Drawn.{IsDrawn}

-- the map of m edges draws the graph h, which is connected, has three vertices or more, and no two darts with the same two ends
pub record IsSimpleMap (m : ℕ) (h : Multigraph) (next previous : ℕ → ℕ) : Type 0 where
  pub drawn : IsDrawn m h next previous
  pub graph : IsGraph h
  pub connected : IsConnected h
  pub three : 3 ≤ h.vertex_count
  pub simple : (c d : ℕ) → c < 2 * m → d < 2 * m → tail h c ≡ tail h d → tail h (twin c) ≡ tail h (twin d) → c ≡ d

-- h is g with more edges, and around each vertex the darts of g come in the order of r
pub record Extends (g : Multigraph) (r : List (List ℕ)) (m : ℕ) (h : Multigraph) (next : ℕ → ℕ) : Type 0 where
  pub more : List (ℕ × ℕ)
  pub vertices : h.vertex_count ≡ g.vertex_count
  pub ends : h.ends ≡ g.ends ++ more
  pub orders : (d : ℕ) → d < dart_count g → restricted (2 * m) (λ x. nat_lt x (dart_count g)) next d ≡ dart_after g r d

-- each face of the map has three darts
pub record IsTriangulated (m : ℕ) (h : Multigraph) (next previous : ℕ → ℕ) : Type 0 where
  pub map : IsSimpleMap m h next previous
  pub triangles : (d : ℕ) → d < 2 * m → face next (face next (face next d)) ≡ d

-- the map adds edges to the graph g with the rotation system r until each face is a triangle
pub record IsTriangulation (g : Multigraph) (r : List (List ℕ)) (m : ℕ) (h : Multigraph) (next previous : ℕ → ℕ) : Type 0 where
  pub triangulated : IsTriangulated m h next previous
  pub extends : Extends g r m h next
