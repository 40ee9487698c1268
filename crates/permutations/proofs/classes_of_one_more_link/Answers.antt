use Rattle.permutations.proofs.Classes.{add-link, add-link-related}
use Rattle.permutations.proofs.classes_of_one_more_link.Goals as goal

pub returns : goal.returns
returns c = record { within = add-link-related; between = add-link }
