use Rattle.spqr_session.specs.Wholes.{AreMembersOf}
use Rattle.spqr_session.proofs.wholes.members.Given as goal

abbrev pub invariant-loop-i : goal.invariant-loop-i
invariant-loop-i l = AreMembersOf l.blocks l.i l.all.items
