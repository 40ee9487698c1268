use Rattle.choice_lists.proofs.Choices.{bond-list, bond-length}
use Rattle.choice_lists.proofs.Laws.{bond-numbered, bond-begins, bond-ends, bond-following}
use Rattle.choice_lists.proofs.choices_of_a_bond.Goals as goal

pub returns : goal.returns
returns c = record { listed = bond-list; counted = bond-length; numbered = bond-numbered; begins = bond-begins; ends = bond-ends; follows = bond-following }
