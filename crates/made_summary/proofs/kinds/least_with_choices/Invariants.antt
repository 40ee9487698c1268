use Rattle.made_summary.specs.Kinds.{NoneHasChoices}
use Rattle.made_summary.proofs.kinds.least_with_choices.Given as goal

abbrev pub invariant-loop-k : goal.invariant-loop-k
invariant-loop-k l = NoneHasChoices l.tree l.k
