use Rattle.std.proofs.Common.{◌<◌, ℕ}
use Rattle.graph_theory.specs.Triconnected.{AreParallel}
use Rattle.contractions.proofs.triconnected.is_simple.Given as goal

abbrev pub invariant-loop-e : goal.invariant-loop-e
invariant-loop-e l = (d c : ℕ) → d < l.e → c < d → AreParallel l.g d c → ⊥
