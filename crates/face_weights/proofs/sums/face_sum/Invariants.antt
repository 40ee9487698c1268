use Rattle.std.proofs.Common.{◌≡◌}
use Rattle.permutations.specs.Count.{sum_below}
use Rattle.face_weights.proofs.Totals.{share}
use Rattle.face_weights.proofs.sums.face_sum.Given as goal

abbrev pub invariant-loop-d : goal.invariant-loop-d
invariant-loop-d l = l.sum ≡ sum_below l.d (share l.numbers l.weights l.number)
