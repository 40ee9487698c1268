use Rattle.std.proofs.Common.{◌≡◌, ◌++◌, drop, codes}
use Rattle.spqr_script.specs.Answers.Rotation.{entries_text}
use Rattle.spqr_script.proofs.answers.whole.push_lists.Given as goal

abbrev pub invariant-loop-i : goal.invariant-loop-i
invariant-loop-i l =
    l.out.items ++ entries_text l.before (drop l.i l.lists) ≡ l.initial.out.items ++ entries_text (codes " ") l.lists
