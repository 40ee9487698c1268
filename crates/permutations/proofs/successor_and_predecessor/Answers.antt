use Rattle.permutations.proofs.Successor.{successor-member, predecessor-successor, successor-predecessor}
use Rattle.permutations.proofs.successor_and_predecessor.Goals as goal

pub returns : goal.returns
returns c = record { stays = successor-member; back = predecessor-successor; forth = successor-predecessor }
