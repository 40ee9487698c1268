use Rattle.std.proofs.Common.{◌<◌, ℕ}
use Rattle.pair_split.specs.Bridges.{AreParallelAt}
use Rattle.pair_split.proofs.search.parallel_behind.Given as goal

abbrev pub invariant-loop-j : goal.invariant-loop-j
invariant-loop-j l = (k : ℕ) → l.i < k → k < l.j → AreParallelAt l.edges l.i k → ⊥
