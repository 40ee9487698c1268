use Rattle.std.proofs.Common.{◌<◌, ℕ, length}
use Rattle.pair_split.specs.Bridges.{AreParallelAt}
use Rattle.pair_split.proofs.search.parallel_places.Given as goal

abbrev pub invariant-loop-i : goal.invariant-loop-i
invariant-loop-i l = (k j : ℕ) → k < l.i → k < j → j < length l.edges → AreParallelAt l.edges k j → ⊥
