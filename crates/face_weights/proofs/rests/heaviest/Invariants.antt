use Rattle.std.proofs.Common.{ℕ, ◌<◌, ◌≤◌, length}
use Rattle.face_weights.specs.Sums.{weight_in}
use Rattle.face_weights.proofs.rests.heaviest.Given as goal

abbrev pub invariant-loop-i : goal.invariant-loop-i
invariant-loop-i l = (l.place < length l.weights) × ((j : ℕ) → j < l.i → weight_in l.weights j ≤ weight_in l.weights l.place)
