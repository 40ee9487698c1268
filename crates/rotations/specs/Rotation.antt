-- Rotation systems: for each vertex a cyclic order of its edges, written as a list from the least edge on.
-- So two rotation systems are the same exactly where the lists are equal.
use Rattle.std.specs.Prelude.{◌≡◌, ℕ, ◌<◌, List, [], length, slice_index_or, IsPermutation}
use Rattle.permutations.specs.Cyclic.{first_or}
use Rattle.multigraph.specs.Graph.{Multigraph, incident_edges}

-- the cyclic order of vertex v
abbrev pub order_at : List (List ℕ) → ℕ → List ℕ
order_at r v = slice_index_or r v []

-- a permutation of the given increasing edges as a cyclic order: each once, the least edge first
pub record IsCyclicOrder (edges order : List ℕ) : Type 0 where
  pub arranged : IsPermutation edges order
  pub least_first : first_or 0 order ≡ first_or 0 edges

-- a rotation system of g: for each vertex a cyclic order of its edges
pub record IsRotationSystem (g : Multigraph) (r : List (List ℕ)) : Type 0 where
  pub vertices : length r ≡ g.vertex_count
  pub orders : (v : ℕ) → v < g.vertex_count → IsCyclicOrder (incident_edges g v) (order_at r v)
