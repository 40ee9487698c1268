use Rattle.std.proofs.Common.{◌<◌, length, slice_index}
use Rattle.faces.specs.Search.{unmarked_count}
use Rattle.face_weights.specs.Numbers.{marks_of}
use Rattle.face_weights.proofs.Numbering.{NumberedUpTo}
use Rattle.face_weights.proofs.numbers.number_orbit.Given as goal

abbrev pub invariant-loop-numbers : goal.invariant-loop-numbers
invariant-loop-numbers l = NumberedUpTo (slice_index l.steps) l.initial.numbers l.numbers l.start l.place × (l.place < length l.steps)

abbrev pub decreases-loop-numbers : goal.decreases-loop-numbers
decreases-loop-numbers l = unmarked_count (marks_of l.numbers)
