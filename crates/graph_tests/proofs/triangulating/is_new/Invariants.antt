use Rattle.std.proofs.Common.{ℕ, ◌<◌}
use Rattle.multigraph.specs.Graph.{ends_of}
use Rattle.graph_theory.specs.Triconnected.{SameEnds}
use Rattle.graph_tests.proofs.triangulating.is_new.Given as goal

abbrev pub invariant-loop-b : goal.invariant-loop-b
invariant-loop-b l = (b : ℕ) → b < l.b → SameEnds (ends_of l.g l.a) (ends_of l.g b) → ⊥
