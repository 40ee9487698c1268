use Rattle.std.proofs.Common.{◌≡◌, ℕ, ◌+◌, ◌<◌, ◌≤◌, ◌⊎◌}
use Rattle.face_weights.specs.Sums.{weight_in}
use Rattle.face_weights.proofs.weighing.greatest_sum.Given as goal

abbrev pub invariant-loop-i : goal.invariant-loop-i
invariant-loop-i l = ((j : ℕ) → j < l.i → weight_in l.weights j + weight_in l.rests j ≤ l.most) × ((l.most ≡ 0) ⊎ ((j : ℕ) × (j < l.i) × (weight_in l.weights j + weight_in l.rests j ≡ l.most)))
