use Rattle.std.proofs.Common.{◌≡◌, drop}
use Rattle.planarity.specs.Lift.{path_of_pair}
use Rattle.contract_obstruct.proofs.paths.path_between.Given as goal

abbrev pub invariant-loop-k : goal.invariant-loop-k
invariant-loop-k l = path_of_pair l.pairs l.paths l.i l.j ≡ path_of_pair (drop l.k l.pairs) (drop l.k l.paths) l.i l.j
