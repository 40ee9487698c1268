-- Going twice to the next dart leads back to each dart so far.
use Rattle.std.proofs.Common.{◌≡◌, ℕ, ◌<◌, slice_index}
use Rattle.path_rotation.proofs.labels.is_involution.Given as goal

abbrev pub invariant-loop-d : goal.invariant-loop-d
invariant-loop-d l = (x : ℕ) → x < l.d → slice_index l.fn.next (slice_index l.fn.next x) ≡ x
