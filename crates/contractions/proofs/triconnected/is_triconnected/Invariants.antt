use Rattle.std.proofs.Common.{◌<◌, ◌+◌, ℕ, [], ◌∷◌}
use Rattle.graph_theory.specs.Triconnected.{IsConnectedWithout}
use Rattle.contractions.proofs.triconnected.is_triconnected.Given as goal

abbrev pub invariant-loop-a : goal.invariant-loop-a
invariant-loop-a l = (d c : ℕ) → d < l.a → c < l.g.vertex_count + 1 → IsConnectedWithout l.g (d ∷ c ∷ c ∷ [])
