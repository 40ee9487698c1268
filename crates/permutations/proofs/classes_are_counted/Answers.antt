use Rattle.permutations.proofs.Classes.{classes-transfer}
use Rattle.permutations.proofs.ClassSizes.{class-sum}
use Rattle.permutations.proofs.classes_are_counted.Goals as goal

pub returns : goal.returns
returns c = record { renumbered = classes-transfer; sum = class-sum }
