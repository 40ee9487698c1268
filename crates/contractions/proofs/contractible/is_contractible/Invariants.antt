use Rattle.std.proofs.Common.{◌≢◌, ◌<◌, ℕ, [], ◌∷◌}
use Rattle.graph_theory.specs.Triconnected.{IsConnectedWithout}
use Rattle.contractions.proofs.contractible.is_contractible.Given as goal

abbrev pub invariant-loop-z : goal.invariant-loop-z
invariant-loop-z l = (z : ℕ) → z < l.z → z ≢ l.x → z ≢ l.y → IsConnectedWithout l.g (l.x ∷ l.y ∷ z ∷ [])
