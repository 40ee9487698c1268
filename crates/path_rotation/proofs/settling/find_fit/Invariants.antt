-- None of the corners so far fits.
use Rattle.std.proofs.Common.{ℕ, ◌≢◌, ◌<◌, slice_index}
use Rattle.path_rotation.specs.Forced.{IsAdmissible}
use Rattle.path_rotation.proofs.settling.find_fit.Given as goal

abbrev pub invariant-loop-c : goal.invariant-loop-c
invariant-loop-c l = (j : ℕ) → j < l.c-index → slice_index l.fn.corners j ≢ l.fn.skip → IsAdmissible l.fn.g l.fn.board.drawn.items l.fn.board.label.items l.fn.attached l.fn.t (slice_index l.fn.corners j) → ⊥
