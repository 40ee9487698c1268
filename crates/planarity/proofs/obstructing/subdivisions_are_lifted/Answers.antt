use Rattle.planarity.proofs.LiftCases.{lift-subdivision}
use Rattle.planarity.proofs.obstructing.subdivisions_are_lifted.Goals as goal

pub returns : goal.returns
returns c = record { lifted = λ g h e x y edge vertex og oh ic s. lift-subdivision g h e x y edge vertex og oh ic s.kind s.branch s.paths s.is }
