use Rattle.std.proofs.Common.{◌≡◌, drop}
use Rattle.kuratowski.specs.Checking.{are_free_paths}
use Rattle.kuratowski.proofs.checking.walk_paths.Given as goal

abbrev pub invariant-loop-k : goal.invariant-loop-k
invariant-loop-k l = are_free_paths l.g l.marks l.branch (drop l.k l.pairs) (drop l.k l.paths) ≡ are_free_paths l.g l.fn.marks l.branch l.pairs l.paths
