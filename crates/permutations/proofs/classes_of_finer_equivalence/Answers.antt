use Rattle.permutations.proofs.Classes.{class_count-finer, class_count-same}
use Rattle.permutations.proofs.classes_of_finer_equivalence.Goals as goal

pub returns : goal.returns
returns c = record { more = class_count-finer; same = class_count-same }
