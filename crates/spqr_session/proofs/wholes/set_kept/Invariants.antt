use Rattle.spqr_session.specs.Wholes.{AreSetTo}
use Rattle.spqr_session.proofs.wholes.set_kept.Given as goal

abbrev pub invariant-loop-i : goal.invariant-loop-i
invariant-loop-i l = AreSetTo l.i l.board.lists l.initial.cuts l.cuts
