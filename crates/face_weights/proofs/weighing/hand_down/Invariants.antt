use Rattle.face_weights.specs.Passes.{AreHandedDown}
use Rattle.face_weights.proofs.weighing.hand_down.Given as goal

abbrev pub invariant-loop-i : goal.invariant-loop-i
invariant-loop-i l = AreHandedDown l.items l.parent l.rests l.i l.initial.above l.above
