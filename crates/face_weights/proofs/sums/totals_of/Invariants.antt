use Rattle.std.proofs.Common.{◌≡◌, ◌<◌, ℕ, length}
use Rattle.permutations.specs.Count.{sum_below}
use Rattle.face_weights.specs.Sums.{weight_in}
use Rattle.face_weights.proofs.Totals.{share}
use Rattle.face_weights.proofs.sums.totals_of.Given as goal

abbrev pub invariant-loop-d : goal.invariant-loop-d
invariant-loop-d l = (length l.totals.items ≡ length l.numbers) × ((t : ℕ) → t < length l.numbers → weight_in l.totals.items t ≡ sum_below l.d (share l.numbers l.weights t))
