-- Graphs without plane rotation system that have one when any edge is left out: K5 and K3,3.
use Rattle.std.specs.Prelude.{◌≡◌, ℕ, ◌<◌, Bool, true, not, ◌==◌, ◌&&◌, ◌||◌, List, [], ◌∷◌, length, filter}
use Rattle.permutations.specs.Count.{some}
use Rattle.multigraph.specs.Graph.{Multigraph, edge_count, is_edge_at, numbers_below}
use Rattle.kuratowski.specs.Subdivision.{pattern_edges, pair_at, branch_count, branch_at, path_at, IsWritten}
use Rattle.kuratowski.specs.declared.subdivision.Pattern.{Pattern}
use Rattle.kuratowski.specs.declared.subdivision.Pattern.TheVariants.{K5, K33}

-- the numbers below m but e
abbrev pub all_but : ℕ → ℕ → List ℕ
all_but m e = filter (λ f. not (f == e)) (numbers_below m)

-- whether e is an edge with both ends
abbrev pub joins : Multigraph → ℕ → ℕ → ℕ → Bool
joins g u v e = is_edge_at g u e && is_edge_at g v e

-- whether an edge joins the two vertices
abbrev pub are_joined : Multigraph → ℕ → ℕ → Bool
are_joined g u v = some (edge_count g) (joins g u v)

-- whether v is the vertex 0, or no edge joins the two
abbrev pub is_far : Multigraph → ℕ → Bool
is_far g v = (v == 0) || not (are_joined g 0 v)

-- how many vertices the side of the first branch vertex has
abbrev pub first_side : Pattern → ℕ
first_side K5 = 1
first_side K33 = 3

-- the graph is this subdivision, the paths of which are single edges: it has no other vertices and no other edges
pub record IsWhole (g : Multigraph) (kind : Pattern) (branch : List ℕ) (paths : List (List ℕ)) : Type 0 where
  pub written : IsWritten g kind branch paths
  pub single : (k : ℕ) → k < length (pattern_edges kind) → length (path_at paths k) ≡ 1
  pub vertices : (v : ℕ) → v < g.vertex_count → (i : ℕ) × (i < branch_count kind) × (branch_at branch i ≡ v)
  pub edges : (e : ℕ) → e < edge_count g → (k : ℕ) × (k < length (pattern_edges kind)) × (path_at paths k ≡ e ∷ [])

-- g is K5 or K3,3
abbrev pub IsPattern : Multigraph → Type 0
IsPattern g = (kind : Pattern) × (branch : List ℕ) × (paths : List (List ℕ)) × IsWhole g kind branch paths

-- this path is an edge between the branch vertices that path k should join
abbrev pub IsEdgePath : Multigraph → Pattern → List ℕ → ℕ → List ℕ → Type 0
IsEdgePath g kind branch k path = (e : ℕ) × (e < edge_count g) × (joins g (branch_at branch (pair_at kind k).0) (branch_at branch (pair_at kind k).1) e ≡ true) × (path ≡ e ∷ [])

-- each path is an edge between the branch vertices that it should join
pub record AreEdges (g : Multigraph) (kind : Pattern) (branch : List ℕ) (paths : List (List ℕ)) : Type 0 where
  pub one_each : length paths ≡ length (pattern_edges kind)
  pub edges : (k : ℕ) → k < length (pattern_edges kind) → IsEdgePath g kind branch k (path_at paths k)
