use Rattle.std.proofs.Common.{None}
use Rattle.spqr_session.proofs.BlockTrees.{block-more}
use Rattle.spqr_session.proofs.embedded.embedded_blocks.Goals as goal

pub loop-b-preserved : goal.loop-b-preserved
loop-b-preserved g c =
    block-more None c.args.graph.now c.args.blocks.now.blocks c.loop-b.b c.loop-b.embedded.items c.push.new.self.items c.in_ok-block.block c.loop-b.invariant c.in_ok-block.ensures c.in_ok-push.ensures.items
