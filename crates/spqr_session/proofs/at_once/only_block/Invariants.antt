-- All are of the block of the first where those that are left are.
use Rattle.std.proofs.Common.{drop}
use Rattle.spqr_session.specs.AtOnce.{AreOfBlock}
use Rattle.spqr_session.proofs.at_once.only_block.Given as goal

abbrev pub invariant-loop-pair : goal.invariant-loop-pair
invariant-loop-pair l = AreOfBlock l.first.block (drop l.pair-index l.moves) → AreOfBlock l.first.block l.moves
