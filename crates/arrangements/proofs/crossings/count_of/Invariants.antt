use Rattle.std.proofs.Common.{◌≡◌}
use Rattle.arrangements.specs.Gaps.{edges_before}
use Rattle.arrangements.proofs.crossings.count_of.Given as goal

-- the places so far
abbrev pub invariant-loop-i : goal.invariant-loop-i
invariant-loop-i l = l.count ≡ edges_before (λ r. r) l.rank l.ranks l.i
