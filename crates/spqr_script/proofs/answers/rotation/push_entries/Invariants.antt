use Rattle.std.proofs.Common.{◌≡◌, ◌++◌, drop, codes}
use Rattle.spqr_script.specs.Answers.Rotation.{entries_text, outer_entries}
use Rattle.spqr_script.proofs.answers.rotation.push_entries.Given as goal

abbrev pub invariant-loop-v : goal.invariant-loop-v
invariant-loop-v l =
    l.out.items ++ entries_text l.before (drop l.v (outer_entries l.part l.lists)) ≡ l.initial.out.items ++ entries_text (codes " ") (outer_entries l.part l.lists)
