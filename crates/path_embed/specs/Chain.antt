-- Graphs that lead to one another by obstacles.
use Rattle.std.specs.Prelude.{◌≡◌, List, [], ◌∷◌}
use Rattle.multigraph.specs.Graph.{Multigraph}
use Rattle.path_embed.specs.Found.{IsObstacle}
use Rattle.path_embed.specs.declared.descending.Level.{Level}

-- the first graph is g, each following one is the skeleton of an obstacle of the one before, and h is that of the last obstacle
abbrev pub IsChain : Multigraph → List Level → Multigraph → Type 0
IsChain g [] h = g ≡ h
IsChain g (level ∷ levels) h = (level.outer ≡ g) × IsObstacle level.outer level.obstacle × IsChain level.obstacle.skeleton levels h
