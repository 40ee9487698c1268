use Rattle.std.proofs.Common.{◌≡◌, replicate, []}
use Rattle.spqr_session.proofs.sorting.none_waiting.Given as goal

-- as many lists as turns so far
abbrev pub invariant-loop : goal.invariant-loop
invariant-loop l = l.waiting.items ≡ replicate l.counter []
