use Rattle.std.proofs.Common.{take}
use Rattle.spqr_session.specs.Sorting.{IsBlockNoted}
use Rattle.spqr_session.proofs.sorting.note_block.Given as goal

-- the edges so far are noted
abbrev pub invariant-loop-e : goal.invariant-loop-e
invariant-loop-e l = IsBlockNoted (take l.e-index l.edges) l.b l.fn.table l.table
