use Rattle.std.proofs.Common.{◌≡◌, ◌<◌, ℕ, length}
use Rattle.face_weights.specs.Numbers.{number_at}
use Rattle.face_weights.specs.Sums.{weight_in}
use Rattle.face_weights.proofs.sums.face_sums.Given as goal

abbrev pub invariant-loop-number : goal.invariant-loop-number
invariant-loop-number l = (length l.sums.items ≡ l.number-index) × ((d : ℕ) → d < l.number-index → weight_in l.sums.items d ≡ weight_in l.totals.items (number_at l.numbers d))
