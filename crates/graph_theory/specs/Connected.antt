-- Connected multigraphs.
use Rattle.std.specs.Prelude.{◌≡◌, ℕ, ◌<◌, true}
use Rattle.permutations.specs.Relation.{connected}
use Rattle.multigraph.specs.Graph.{Multigraph}

-- the graph is connected: edges connect any two vertices. So a graph without vertices is connected
abbrev pub IsConnected : Multigraph → Type 0
IsConnected g = (u v : ℕ) → u < g.vertex_count → v < g.vertex_count → connected g.ends u v ≡ true
