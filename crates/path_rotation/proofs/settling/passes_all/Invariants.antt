-- The face passes the vertices so far.
use Rattle.std.proofs.Common.{ℕ, ◌<◌, slice_index}
use Rattle.path_rotation.specs.Forced.{IsCorner}
use Rattle.path_rotation.proofs.settling.passes_all.Given as goal

abbrev pub invariant-loop-z : goal.invariant-loop-z
invariant-loop-z l = (j : ℕ) → j < l.z-index → (k : ℕ) × IsCorner l.fn.g l.fn.board.drawn.items l.fn.board.label.items (slice_index l.fn.attached j) l.fn.face k
