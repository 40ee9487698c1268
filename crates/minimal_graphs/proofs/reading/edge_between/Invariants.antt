use Rattle.std.proofs.Common.{◌≡◌, ◌<◌, ℕ, false}
use Rattle.minimal_graphs.specs.Whole.{joins}
use Rattle.minimal_graphs.proofs.reading.edge_between.Given as goal

abbrev pub invariant-loop-e : goal.invariant-loop-e
invariant-loop-e l = (i : ℕ) → i < l.e → joins l.g l.u l.v i ≡ false
