use Rattle.std.proofs.Common.{◌<◌, ℕ, [], ◌∷◌}
use Rattle.graph_theory.specs.Triconnected.{IsConnectedWithout}
use Rattle.contractions.proofs.triconnected.stays_connected.Given as goal

abbrev pub invariant-loop-b : goal.invariant-loop-b
invariant-loop-b l = (d : ℕ) → d < l.b → IsConnectedWithout l.g (l.a ∷ d ∷ d ∷ [])
