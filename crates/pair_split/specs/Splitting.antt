-- State of a loop: splitting as the code has it.
use Rattle.std.specs.Prelude.{◌+◌, ◌≤◌, List, length, map}
use Rattle.multigraph.specs.Graph.{Multigraph, edge_count, IsGraph}
use Rattle.pair_split.specs.Bridges.{entry_of, family_of, HaveEndsBelow}
use Rattle.pair_split.specs.State.{Part, SplitState, IsSplitState}
use Rattle.pair_split.specs.declared.family.NamedEdge.{NamedEdge}
use Rattle.pair_split.specs.declared.splitting.Finished.{Finished}

-- a finished component of the code
abbrev pub part_of : Finished → Part
part_of finished = record { kind = finished.kind; own = entry_of finished.own; entries = family_of finished.edges }

-- the state that these components and these edges are
abbrev pub state_of : List Finished → List NamedEdge → SplitState
state_of parts current = record { parts = map part_of parts; current = family_of current }

-- what holds while a block of three or more edges is split: the state is one of splitting this graph, the ends are vertices,
-- three or more edges are left, and with the finished components they are no more than the graph's edges
pub record IsSplitting (g : Multigraph) (parts : List Finished) (current : List NamedEdge) : Type 0 where
  pub graph : IsGraph g
  pub state : IsSplitState g (state_of parts current)
  pub ends : HaveEndsBelow g.vertex_count current
  pub three : 3 ≤ length current
  pub few : length parts + length current ≤ edge_count g
