use Rattle.std.proofs.Common.{◌≡◌, take}
use Rattle.triangulations.proofs.starting.ends_of.Given as goal

abbrev pub invariant-loop-e : goal.invariant-loop-e
invariant-loop-e l = l.ends.items ≡ take l.e l.g.ends
