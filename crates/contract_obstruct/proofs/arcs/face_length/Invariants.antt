use Rattle.std.proofs.Common.{◌≡◌, ℕ, ◌+◌, ◌<◌, ◌==◌, false}
use Rattle.permutations.specs.Permutation.{iterate}
use Rattle.contract_obstruct.specs.Arcs.{along}
use Rattle.contract_obstruct.proofs.arcs.face_length.Given as goal

abbrev pub invariant-loop-passed : goal.invariant-loop-passed
invariant-loop-passed l = (l.at ≡ iterate (along l.next) (l.passed + 1) l.dart) × ((j : ℕ) → j < l.passed → (iterate (along l.next) (j + 1) l.dart == l.dart) ≡ false)
