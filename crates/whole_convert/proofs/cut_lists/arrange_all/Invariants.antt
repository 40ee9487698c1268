use Rattle.whole_convert.proofs.TargetLists.{AreTargetTo}
use Rattle.whole_convert.proofs.cut_lists.arrange_all.Given as goal

abbrev pub invariant-loop-i : goal.invariant-loop-i
invariant-loop-i l = AreTargetTo l.initial.cuts l.q l.cuts l.i
