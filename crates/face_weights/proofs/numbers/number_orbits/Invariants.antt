use Rattle.std.proofs.Common.{length, slice_index}
use Rattle.face_weights.specs.Numbers.{AreOrbitsNumbered}
use Rattle.face_weights.proofs.numbers.number_orbits.Given as goal

abbrev pub invariant-loop-start : goal.invariant-loop-start
invariant-loop-start l = AreOrbitsNumbered (length l.steps) (slice_index l.steps) l.start l.numbers
