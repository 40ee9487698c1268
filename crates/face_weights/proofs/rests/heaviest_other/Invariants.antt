use Rattle.std.proofs.Common.{◌≡◌, ◌≢◌, ℕ, ◌<◌, ◌≤◌, ◌⊎◌}
use Rattle.face_weights.specs.Sums.{weight_in}
use Rattle.face_weights.proofs.rests.heaviest_other.Given as goal

abbrev pub invariant-loop-i : goal.invariant-loop-i
invariant-loop-i l = ((j : ℕ) → j < l.i → j ≢ l.place → weight_in l.weights j ≤ l.most) × ((l.most ≡ 0) ⊎ ((j : ℕ) × (j < l.i) × (j ≢ l.place) × (weight_in l.weights j ≡ l.most)))
