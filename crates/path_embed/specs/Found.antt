-- What is found in a graph that has no plane rotation system.
use Rattle.std.specs.Prelude.{◌≡◌, ℕ, ◌<◌, length, slice_index, IfSome}
use Rattle.multigraph.specs.Graph.{Multigraph, edge_count}
use Rattle.multigraph.specs.Part.{GraphPart, IsPart}
use Rattle.skeletons.specs.Items.{IsBlockTree}
use Rattle.path_embed.specs.Planar.{IsNonplanarNode}
use Rattle.path_embed.specs.declared.deciding.Obstacle.{Obstacle}
use Rattle.path_embed.specs.declared.rest.Found.{Found}
use Rattle.path_embed.specs.declared.rest.Rest.{Rest}

-- a part of g: the edges of it that its edges are, and the part that these make
pub record IsPartOf (g : Multigraph) (part : GraphPart) : Type 0 where
  pub is_part : IsPart g part.edges part
  pub inside : (i : ℕ) → i < length part.edges → slice_index part.edges i < edge_count g

-- a part of g with its tree, as that of a block, and a triconnected node whose skeleton has no plane rotation system
pub record IsObstacle (g : Multigraph) (o : Obstacle) : Type 0 where
  pub block : IsPartOf g o.block
  pub tree : IsBlockTree o.block.graph o.tree
  pub node : IsNonplanarNode o.tree o.node o.skeleton

-- an obstacle whose part is this one
abbrev pub IsObstacleIn : Multigraph → GraphPart → Obstacle → Type 0
IsObstacleIn g part o = IsObstacle g o × (o.block ≡ part)

-- an obstacle whose skeleton has fewer edges than g
abbrev pub IsSmaller : Multigraph → Obstacle → Type 0
IsSmaller g o = IsObstacle g o × (edge_count o.skeleton < edge_count g)

-- a part of g, and an obstacle of it
pub record IsFound (g : Multigraph) (f : Found) : Type 0 where
  pub whole : IsPartOf g f.whole
  pub obstacle : IsObstacle f.whole.graph f.obstacle

-- what is left of g: all of it, or what was found
abbrev pub IsRest : Multigraph → Rest → Type 0
IsRest g rest = IfSome rest.found (IsFound g)
