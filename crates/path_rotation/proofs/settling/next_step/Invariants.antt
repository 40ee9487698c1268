-- There is a choice at each foot so far.
use Rattle.std.proofs.Common.{ℕ, ◌<◌}
use Rattle.path_rotation.specs.Fitting.{IsFoot}
use Rattle.path_rotation.specs.Settling.{IsOpen}
use Rattle.path_rotation.proofs.settling.next_step.Given as goal

abbrev pub invariant-loop-t : goal.invariant-loop-t
invariant-loop-t l = (x : ℕ) → x < l.t → IsFoot l.fn.g l.fn.board.drawn.items l.fn.board.on.items x → IsOpen l.fn.g l.fn.board.drawn.items l.fn.board.next.items x
