use Rattle.std.proofs.Common.{◌≡◌}
use Rattle.spqr_session.specs.WholeSteps.{changes_below, wanted_in}
use Rattle.spqr_session.proofs.whole_steps.all_changes.Given as goal

abbrev pub invariant-loop-i : goal.invariant-loop-i
invariant-loop-i l = l.changes.items ≡ changes_below l.cuts.component.cuts l.kept (wanted_in l.first l.cuts) l.i
