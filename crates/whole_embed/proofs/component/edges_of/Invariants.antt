use Rattle.std.proofs.Common.{◌≡◌, filter}
use Rattle.multigraph.specs.Graph.{numbers_below}
use Rattle.whole_embed.specs.Component.{has_edge}
use Rattle.whole_embed.proofs.component.edges_of.Given as goal

abbrev pub invariant-loop-edge : goal.invariant-loop-edge
invariant-loop-edge l = l.list.items ≡ filter (has_edge l.graph l.blocks l.c) (numbers_below l.edge)
