use Rattle.planarity.proofs.FoundCommon.{common-subdivision}
use Rattle.planarity.proofs.FoundTurn.{turn-found}
use Rattle.planarity.proofs.obstructing.neighbours_on_the_circle_obstruct.Goals as goal

pub returns : goal.returns
returns c = record { common = common-subdivision; alternating = turn-found }
