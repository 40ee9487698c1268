use Rattle.whole_embed.specs.Frames.{AreNotedBelow}
use Rattle.whole_embed.proofs.component.block_table.Given as goal

abbrev pub invariant-loop-b : goal.invariant-loop-b
invariant-loop-b l = AreNotedBelow l.graph l.blocks.blocks l.b l.table.items
