-- State of a loop: graphs that lead to one another by contractions.
use Rattle.std.specs.Prelude.{◌≡◌, List, [], ◌∷◌}
use Rattle.multigraph.specs.Graph.{Multigraph}
use Rattle.contractions.specs.Level.{IsLevel, contraction}
use Rattle.contractions.specs.declared.level.Level.{Level}

-- the first graph is g, each following one is the contraction of the one before, and h is that of the last one
abbrev pub IsChain : Multigraph → List Level → Multigraph → Type 0
IsChain g [] h = g ≡ h
IsChain g (level ∷ levels) h = (level.graph ≡ g) × IsLevel level × IsChain (contraction level) levels h
