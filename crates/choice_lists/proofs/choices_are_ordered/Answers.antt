use Rattle.choice_lists.specs.Order.{is_before}
use Rattle.choice_lists.proofs.Orders.{linear-before, linear-vectors, lex-longer, rising-same}
use Rattle.choice_lists.proofs.Laws.{first-difference}
use Rattle.choice_lists.proofs.choices_are_ordered.Goals as goal

pub returns : goal.returns
returns c = record { choices = linear-before; vectors = linear-vectors; difference = first-difference; one_more = λ v w x y e. lex-longer is_before linear-before v w x y e; told = λ before a l k r s m. rising-same before a l k r s m }
