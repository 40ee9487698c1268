use Rattle.std.proofs.Common.{◌<◌, ℕ}
use Rattle.graph_theory.specs.Triconnected.{AreParallel}
use Rattle.contractions.proofs.triconnected.is_first.Given as goal

abbrev pub invariant-loop-f : goal.invariant-loop-f
invariant-loop-f l = (d : ℕ) → d < l.f → AreParallel l.g l.e d → ⊥
