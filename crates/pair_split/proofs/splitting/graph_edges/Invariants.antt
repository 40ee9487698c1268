use Rattle.std.proofs.Common.{◌≡◌, ◌+◌, map}
use Rattle.multigraph.specs.Graph.{numbers_below}
use Rattle.pair_split.specs.Edges.{graph_entry}
use Rattle.pair_split.specs.Bridges.{family_of}
use Rattle.pair_split.proofs.splitting.graph_edges.Given as goal

abbrev pub invariant-loop-e : goal.invariant-loop-e
invariant-loop-e g l = (family_of l.edges.items ≡ map (graph_entry l.g) (numbers_below l.e)) × (l.steps ≡ l.initial.steps + l.e)
