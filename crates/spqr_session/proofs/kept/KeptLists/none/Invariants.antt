-- None for each turn so far.
use Rattle.std.proofs.Common.{◌≡◌, replicate, None}
use Rattle.spqr_session.proofs.kept.KeptLists.none.Given as goal

abbrev pub invariant-loop : goal.invariant-loop
invariant-loop l = l.lists.items ≡ replicate l.counter None
