use Rattle.choice_lists.proofs.Choices.{arrangements-list}
use Rattle.choice_lists.proofs.Laws.{arrangements-counted}
use Rattle.choice_lists.proofs.arrangements_are_listed.Goals as goal

pub returns : goal.returns
returns c = record { listed = arrangements-list; counted = arrangements-counted }
