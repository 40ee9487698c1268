use Rattle.std.proofs.Common.{ℕ, ◌<◌}
use Rattle.rotations.specs.Entries.{entry}
use Rattle.rotations.proofs.outer.reach.Given as goal

-- the entries so far are for smaller vertices
abbrev pub invariant-loop-k : goal.invariant-loop-k
invariant-loop-k l = (j : ℕ) → j < l.k → (entry l.lists j).0 < l.v
