use Rattle.std.proofs.Common.{◌≡◌, ◌<◌, ℕ, [], ◌∷◌, true}
use Rattle.permutations.specs.Members.{is_member}
use Rattle.contractions.proofs.labels.first_left.Given as goal

abbrev pub invariant-loop-vertex : goal.invariant-loop-vertex
invariant-loop-vertex l = (v : ℕ) → v < l.vertex → is_member v (l.x ∷ l.y ∷ l.z ∷ []) ≡ true
