-- Subgraphs under numbers of their own, and what a rotation system leaves of itself on them.
use Rattle.std.specs.Prelude.{◌≡◌, ℕ, ◌<◌, Bool, ◌==◌, List, map, filter}
use Rattle.permutations.specs.Count.{some}
use Rattle.permutations.specs.Cyclic.{IsTurn}
use Rattle.multigraph.specs.Graph.{Multigraph, edge_count, ends_of}
use Rattle.rotations.specs.Rotation.{order_at}

-- `part` is a subgraph of g under other numbers: its edge i is the edge `edge i` of g, its vertex v the vertex `vertex v`,
-- and the two ends of an edge keep their order
pub record IsSubgraph (part g : Multigraph) (edge vertex : ℕ → ℕ) : Type 0 where
  pub edges : (i : ℕ) → i < edge_count part → edge i < edge_count g
  pub edges_once : (i j : ℕ) → i < edge_count part → j < edge_count part → edge i ≡ edge j → i ≡ j
  pub vertices : (v : ℕ) → v < part.vertex_count → vertex v < g.vertex_count
  pub vertices_once : (u v : ℕ) → u < part.vertex_count → v < part.vertex_count → vertex u ≡ vertex v → u ≡ v
  pub first_ends : (i : ℕ) → i < edge_count part → (ends_of g (edge i)).0 ≡ vertex (ends_of part i).0
  pub second_ends : (i : ℕ) → i < edge_count part → (ends_of g (edge i)).1 ≡ vertex (ends_of part i).1

-- whether an edge of g is one of the part
abbrev pub is_kept : Multigraph → (ℕ → ℕ) → ℕ → Bool
is_kept part edge e = some (edge_count part) (λ i. edge i == e)

-- the rotation system `inner` of the part goes around each vertex as `outer` does in g, the edges that are not of the part
-- left out
abbrev pub IsRestriction : Multigraph → (ℕ → ℕ) → (ℕ → ℕ) → List (List ℕ) → List (List ℕ) → Type 0
IsRestriction part edge vertex outer inner = (v : ℕ) → v < part.vertex_count → IsTurn (filter (is_kept part edge) (order_at outer (vertex v))) (map edge (order_at inner v))
