use Rattle.pair_split.proofs.Separations.{separation-family, family-separation}
use Rattle.pair_split.proofs.laws.separations_are_those_of_the_family.Goals as goal

pub returns : goal.returns
returns c = record { of_family = separation-family; of_graph = family-separation }
