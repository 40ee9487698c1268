use Rattle.std.proofs.Common.{ℕ, ◌<◌}
use Rattle.multigraph.specs.Build.{multigraph_of, IsSound}
use Rattle.multigraph.proofs.faults.check_ends.Given as goal

-- every edge so far is sound
abbrev pub invariant-loop-e : goal.invariant-loop-e
invariant-loop-e l = (k : ℕ) → k < l.e → IsSound (multigraph_of l.n l.ends) k
