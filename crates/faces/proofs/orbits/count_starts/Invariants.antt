-- What the numbers passed so far reach is marked, and the starts among them are counted.
use Rattle.std.proofs.Common.{length, slice_index}
use Rattle.permutations.specs.Permutation.{reaches}
use Rattle.faces.proofs.Found.{FoundBelow}
use Rattle.faces.proofs.orbits.count_starts.Given as goal

abbrev pub invariant-loop-start : goal.invariant-loop-start
invariant-loop-start l = FoundBelow (reaches (length l.images) (slice_index l.images)) l.start l.marks l.orbits
