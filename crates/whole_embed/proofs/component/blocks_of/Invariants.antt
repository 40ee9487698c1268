use Rattle.std.proofs.Common.{◌≡◌, filter, slice_index}
use Rattle.multigraph.specs.Graph.{numbers_below}
use Rattle.blocks.specs.Blocks.{block_at}
use Rattle.whole_embed.specs.Component.{has_edge}
use Rattle.whole_embed.proofs.component.blocks_of.Given as goal

abbrev pub invariant-loop-b : goal.invariant-loop-b
invariant-loop-b l = l.list.items ≡ filter (λ b. has_edge l.graph l.blocks l.c (slice_index (block_at l.blocks.blocks b) 0)) (numbers_below l.b)
