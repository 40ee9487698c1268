use Rattle.planarity.proofs.Circle.{circle-back}
use Rattle.planarity.proofs.obstructing.neighbours_lie_on_a_circle.Goals as goal

pub returns : goal.returns
returns c = record { circle = circle-back }
