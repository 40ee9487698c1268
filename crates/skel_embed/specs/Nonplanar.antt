-- A block without a plane rotation system, as contracts see it.
use Rattle.std.specs.Prelude.{List}
use Rattle.kuratowski.specs.declared.subdivision.Subdivision.{Subdivision}
use Rattle.multigraph.specs.Graph.{Multigraph}
use Rattle.pair_split.specs.Tutte.{Node}

-- its graph, its tree, and a subdivision of K5 or K3,3 in the graph
pub record Refused : Type 0 where
  pub graph : Multigraph
  pub tree : List Node
  pub certificate : Subdivision
