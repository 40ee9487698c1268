-- Those so far may be set.
use Rattle.std.proofs.Common.{◌≡◌, true, take}
use Rattle.std.specs.List.{list_all}
use Rattle.spqr_session.specs.Marked.{may_set}
use Rattle.spqr_session.proofs.marks.may_set_all.Given as goal

abbrev pub invariant-loop-pair : goal.invariant-loop-pair
invariant-loop-pair l = list_all (may_set l.marks) (take l.pair-index l.lists) ≡ true
