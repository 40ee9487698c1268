use Rattle.std.proofs.Common.{◌<◌, ℕ}
use Rattle.contract_obstruct.specs.Obstruction.{IsCrossingAt}
use Rattle.contract_obstruct.proofs.obstructing.crossing_places.Given as goal

abbrev pub invariant-loop-j : goal.invariant-loop-j
invariant-loop-j l = (i j k : ℕ) → j < l.j → IsCrossingAt l.level l.order i j k → ⊥
