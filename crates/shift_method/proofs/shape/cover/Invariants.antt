use Rattle.std.proofs.Common.{slice_index}
use Rattle.shift_method.proofs.Writes.{IsCovering}
use Rattle.shift_method.proofs.shape.cover.Given as goal

abbrev pub invariant-loop-v : goal.invariant-loop-v
invariant-loop-v l = IsCovering (slice_index l.gap) l.vertices l.initial.offset l.v-index l.sum l.offset
