use Rattle.std.proofs.Common.{◌≡◌, drop}
use Rattle.planarity.specs.Lift.{is_listed}
use Rattle.contract_obstruct.proofs.paths.is_listed.Given as goal

abbrev pub invariant-loop-pair : goal.invariant-loop-pair
invariant-loop-pair l = is_listed l.pairs l.i l.j ≡ is_listed (drop l.pair-index l.pairs) l.i l.j
