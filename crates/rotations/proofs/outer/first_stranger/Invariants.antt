use Rattle.std.proofs.Common.{ℕ, ◌<◌}
use Rattle.std.specs.List.{Contains}
use Rattle.rotations.specs.Entries.{entry}
use Rattle.rotations.proofs.outer.first_stranger.Given as goal

-- the entries so far are for vertices of the part
abbrev pub invariant-loop-k : goal.invariant-loop-k
invariant-loop-k l = (j : ℕ) → j < l.k → Contains l.p.vertices (entry l.lists j).0
