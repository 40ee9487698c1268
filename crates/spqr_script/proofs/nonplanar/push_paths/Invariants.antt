use Rattle.std.proofs.Common.{◌≡◌, ◌++◌, drop}
use Rattle.kuratowski.specs.Subdivision.{pattern_edges}
use Rattle.spqr_script.specs.Nonplanar.{path_texts}
use Rattle.spqr_script.proofs.nonplanar.push_paths.Given as goal

abbrev pub invariant-loop-k : goal.invariant-loop-k
invariant-loop-k l =
    l.out.items ++ path_texts l.part l.branch (drop l.k (pattern_edges l.fn.kind)) (drop l.k l.paths) ≡ l.initial.out.items ++ path_texts l.part l.branch (pattern_edges l.fn.kind) l.paths
