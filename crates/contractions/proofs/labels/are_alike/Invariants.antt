use Rattle.std.proofs.Common.{◌≡◌, ◌<◌, ◌≤◌, ℕ, [], ◌∷◌, false, slice_index}
use Rattle.permutations.specs.Members.{is_member}
use Rattle.contractions.proofs.labels.are_alike.Given as goal

abbrev pub invariant-loop-vertex : goal.invariant-loop-vertex
invariant-loop-vertex l = (v : ℕ) → l.first ≤ v → v < l.vertex → is_member v (l.x ∷ l.y ∷ l.z ∷ []) ≡ false → slice_index l.labels v ≡ slice_index l.labels l.first
