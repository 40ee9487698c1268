use Rattle.choice_lists.proofs.Laws.{choice_lists-rise, choice_lists-end}
use Rattle.choice_lists.proofs.choices_of_any_node.Goals as goal

pub returns : goal.returns
returns c = record { rise = choice_lists-rise; mirrored = choice_lists-end }
