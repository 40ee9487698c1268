use Rattle.std.proofs.Common.{ℕ, ◌<◌}
use Rattle.multigraph.specs.Graph.{ends_of}
use Rattle.graph_theory.specs.Triconnected.{SameEnds}
use Rattle.graph_tests.proofs.triangulating.is_simple.Given as goal

abbrev pub invariant-loop-a : goal.invariant-loop-a
invariant-loop-a l = (a b : ℕ) → a < l.a → b < a → SameEnds (ends_of l.g a) (ends_of l.g b) → ⊥
