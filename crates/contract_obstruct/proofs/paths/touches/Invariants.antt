use Rattle.std.proofs.Common.{◌≡◌, drop}
use Rattle.planarity.specs.Lift.{touches}
use Rattle.contract_obstruct.proofs.paths.touches.Given as goal

abbrev pub invariant-loop-edge : goal.invariant-loop-edge
invariant-loop-edge l = touches l.g l.z l.edges ≡ touches l.g l.z (drop l.edge-index l.edges)
