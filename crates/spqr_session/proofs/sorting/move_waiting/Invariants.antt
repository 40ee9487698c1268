use Rattle.std.proofs.Common.{length, take}
use Rattle.spqr_session.specs.Sorting.{AreMoved}
use Rattle.spqr_session.proofs.sorting.move_waiting.Given as goal

-- the edges so far are moved
abbrev pub invariant-loop-e : goal.invariant-loop-e
invariant-loop-e l = AreMoved l.of_edge l.list (take l.e-index l.list) l.v (length l.fn.lists.items) l.fn.lists.items l.lists.items l.waiting.items
