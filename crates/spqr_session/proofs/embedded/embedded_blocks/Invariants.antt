use Rattle.std.proofs.Common.{None}
use Rattle.spqr_session.specs.Embedded.{AreStartBlocks}
use Rattle.spqr_session.proofs.embedded.embedded_blocks.Given as goal

abbrev pub invariant-loop-b : goal.invariant-loop-b
invariant-loop-b g l = AreStartBlocks None l.graph l.blocks.blocks l.b l.embedded.items
