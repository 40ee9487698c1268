-- Blocks of a multigraph: the classes of its edges under "equal or on a common cycle".
use Rattle.std.specs.Prelude.{◌≡◌, ℕ, ◌<◌, ◌≤◌, ◌⊎◌, true, List}
use Rattle.permutations.specs.Members.{is_member}
use Rattle.multigraph.specs.Graph.{Multigraph, edge_count, is_end}
use Rattle.graph_theory.specs.Path.{IsCycle}

-- a cycle that has both edges
pub record CommonCycle (g : Multigraph) (e f : ℕ) : Type 0 where
  pub start : ℕ
  pub along : List ℕ
  pub cycle : IsCycle g start along
  pub first_on : is_member e along ≡ true
  pub second_on : is_member f along ≡ true

-- the two edges are in the same block: they are equal, or lie on a common cycle
abbrev pub SameBlock : Multigraph → ℕ → ℕ → Type 0
SameBlock g e f = (e ≡ f) ⊎ CommonCycle g e f

-- any two edges are in the same block. So it is of a graph without edges, and with vertices that have none
abbrev pub EdgesShareBlock : Multigraph → Type 0
EdgesShareBlock g = (e f : ℕ) → e < edge_count g → f < edge_count g → SameBlock g e f

-- the graph is one block: it has an edge, no vertex without edges, and all its edges are in the same block
pub record IsOneBlock (g : Multigraph) : Type 0 where
  pub has_edge : 1 ≤ edge_count g
  pub at_edge : (v : ℕ) → v < g.vertex_count → (e : ℕ) × (e < edge_count g) × (is_end g v e ≡ true)
  pub same_block : EdgesShareBlock g
