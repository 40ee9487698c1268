use Rattle.std.proofs.Common.{slice_index}
use Rattle.blocks.specs.Blocks.{block_at}
use Rattle.whole_embed.specs.Component.{has_edge}
use Rattle.whole_embed.proofs.Searching.{noted-number}
use Rattle.whole_embed.proofs.component.blocks_of.Goals as goal

pub loop-b-preserved : goal.loop-b-preserved
loop-b-preserved c = noted-number (λ b. has_edge c.args.graph.now c.args.blocks.now c.args.c (slice_index (block_at c.args.blocks.now.blocks b) 0)) c.loop-b.b c.loop-b.list.items _ c.is_block_of-wanted.result c.loop-b.invariant c.is_block_of-wanted.ensures c.in_ok-note.ensures
