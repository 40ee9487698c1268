use Rattle.std.proofs.Common.{◌≡◌, replicate, []}
use Rattle.spqr_session.proofs.sorting.no_entries.Given as goal

-- as many lists as turns so far
abbrev pub invariant-loop : goal.invariant-loop
invariant-loop l = l.lists.items ≡ replicate l.counter []
