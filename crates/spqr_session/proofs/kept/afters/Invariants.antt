-- Those of the changes so far.
use Rattle.std.proofs.Common.{◌≡◌, map, take}
use Rattle.spqr_session.specs.History.{list_after}
use Rattle.spqr_session.proofs.kept.afters.Given as goal

abbrev pub invariant-loop-change : goal.invariant-loop-change
invariant-loop-change l = l.lists.items ≡ map list_after (take l.change-index l.change-items)
