use Rattle.std.proofs.Common.{length, take}
use Rattle.spqr_session.specs.Sorting.{AreWaiting}
use Rattle.spqr_session.proofs.sorting.wait.Given as goal

-- the edges so far wait
abbrev pub invariant-loop-e : goal.invariant-loop-e
invariant-loop-e l = AreWaiting l.of_edge (take l.e-index l.list) (length l.fn.waiting.items) l.waiting.items
