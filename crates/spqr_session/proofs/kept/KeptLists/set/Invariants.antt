-- The lists that are left make of the present ones what all make of the first.
use Rattle.std.proofs.Common.{◌≡◌}
use Rattle.spqr_session.specs.History.{lists_set}
use Rattle.spqr_session.proofs.kept.KeptLists.set.Given as goal

abbrev pub invariant-loop-pair : goal.invariant-loop-pair
invariant-loop-pair l = lists_set l.pair-iterator.rest.items l.self ≡ lists_set l.fn.lists.items l.fn.self
