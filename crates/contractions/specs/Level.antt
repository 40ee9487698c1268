-- A graph with an edge that is to be contracted.
use Rattle.std.specs.Prelude.{◌≡◌, ℕ, ◌<◌, ◌≤◌, true, slice_index}
use Rattle.permutations.specs.Count.{some}
use Rattle.multigraph.specs.Graph.{Multigraph, IsGraph, IsWithinLimits, edge_count, is_end, other_end, ends_of}
use Rattle.graph_theory.specs.Triconnected.{IsTriconnected}
use Rattle.contractions.specs.Contraction.{IsContractible, common_count, is_private}
use Rattle.contractions.specs.Contracted.{kept_edges, contracted}
use Rattle.contractions.specs.declared.level.Level.{Level}

-- the edge may be contracted, and none before it
pub record IsFirstContractible (g : Multigraph) (edge : ℕ) : Type 0 where
  pub edge_in : edge < edge_count g
  pub contractible : IsContractible g (ends_of g edge).0 (ends_of g edge).1
  pub first : (f : ℕ) → f < edge → IsContractible g (ends_of g f).0 (ends_of g f).1 → ⊥

-- an edge between x and y that may be contracted; y has an edge of its own if there are at most two common neighbours
pub record IsOriented (g : Multigraph) (edge x y : ℕ) : Type 0 where
  pub edge_in : edge < edge_count g
  pub first_end : is_end g x edge ≡ true
  pub second_end : other_end g edge x ≡ y
  pub contractible : IsContractible g x y
  pub private : common_count g x y ≤ 2 → some (edge_count g) (is_private g edge x y) ≡ true

-- a triconnected graph of five vertices or more, within the limits, with such an edge and the edges that stay when it is contracted
pub record IsLevel (level : Level) : Type 0 where
  pub graph : IsGraph level.graph
  pub limits : IsWithinLimits level.graph
  pub triconnected : IsTriconnected level.graph
  pub five : 5 ≤ level.graph.vertex_count
  pub oriented : IsOriented level.graph level.edge level.x level.y
  pub kept : level.kept.items ≡ kept_edges level.graph level.edge level.x level.y

-- the graph with the edge contracted
abbrev pub contraction : Level → Multigraph
contraction level = contracted level.graph level.edge level.x level.y

-- the edge that edge i of the contraction was
abbrev pub edge_before : Level → ℕ → ℕ
edge_before level i = slice_index level.kept.items i
