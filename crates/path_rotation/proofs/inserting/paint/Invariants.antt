-- The darts of the edges so far have the label.
use Rattle.std.proofs.Common.{◌≡◌, ℕ, ◌/◌, ◌<◌, cond, length, take, slice_index}
use Rattle.permutations.specs.Members.{is_member}
use Rattle.path_rotation.proofs.inserting.paint.Given as goal

abbrev pub invariant-loop-edge : goal.invariant-loop-edge
invariant-loop-edge l = (d : ℕ) → d < length l.label → slice_index l.label d ≡ cond (is_member (d / 2) (take l.edge-index l.fn.path)) l.fn.face (slice_index l.initial.label d)
