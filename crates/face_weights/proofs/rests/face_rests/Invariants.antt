use Rattle.std.proofs.Common.{◌≡◌, ℕ, ◌+◌, ◌*◌, ◌<◌, max, length}
use Rattle.face_weights.specs.Numbers.{number_at}
use Rattle.face_weights.specs.Sums.{weight_in}
use Rattle.face_weights.proofs.rests.face_rests.Given as goal

abbrev pub invariant-loop-i : goal.invariant-loop-i
invariant-loop-i l = (length l.rests.items ≡ l.i) × ((j : ℕ) → j < l.i → weight_in l.rests.items j + weight_in l.weights j ≡ max (weight_in l.totals (number_at l.numbers (2 * j))) (weight_in l.totals (number_at l.numbers (2 * j + 1))))
