use Rattle.spqr_session.specs.Texts.{AreExtended, bytes_of}
use Rattle.spqr_session.proofs.NumberTexts.{added_below}
use Rattle.spqr_session.proofs.texts.push_block.Given as goal

-- the edges of the vertices so far are appended
abbrev pub invariant-loop-i : goal.invariant-loop-i
invariant-loop-i l = AreExtended (added_below l.block.tree l.block.entry l.i) (bytes_of l.initial.texts.items) (bytes_of l.texts.items)
