use Rattle.skeletons.proofs.Leading.{moves-name}
use Rattle.skeletons.proofs.laws.moves_name_different_choices.Goals as goal

pub returns : goal.returns
returns c = moves-name
