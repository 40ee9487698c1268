use Rattle.shift_method.proofs.Writes.{AreWritten}
use Rattle.shift_method.proofs.spreading.spread_heads.Given as goal

abbrev pub invariant-loop-v : goal.invariant-loop-v
invariant-loop-v l = AreWritten l.inner l.initial.x l.shape.offset l.left l.v-index l.x
