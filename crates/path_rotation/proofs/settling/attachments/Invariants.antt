-- The attachments so far.
use Rattle.path_rotation.proofs.FreeLabels.{AreFoundBelow}
use Rattle.path_rotation.proofs.settling.attachments.Given as goal

abbrev pub invariant-loop-z : goal.invariant-loop-z
invariant-loop-z l = AreFoundBelow l.fn.g l.fn.board.drawn.items l.fn.t l.z l.attached.items
