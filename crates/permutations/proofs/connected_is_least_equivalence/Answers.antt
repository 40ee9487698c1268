use Rattle.permutations.proofs.Relation.{connected-equivalence, connected-link, connected-least_containing}
use Rattle.permutations.proofs.connected_is_least_equivalence.Goals as goal

pub returns : goal.returns
returns c = record { equivalence = connected-equivalence; contains = connected-link; least = connected-least_containing }
