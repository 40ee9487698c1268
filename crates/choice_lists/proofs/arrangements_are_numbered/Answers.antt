use Rattle.choice_lists.proofs.Arrangements.{number-below}
use Rattle.choice_lists.proofs.Laws.{number-tells, lehmer-digits, number-place, place-number, number-numbered, numbered-number}
use Rattle.choice_lists.proofs.arrangements_are_numbered.Goals as goal

pub returns : goal.returns
returns c = record { place = number-place; at_place = place-number; back = number-numbered; forth = numbered-number; below = number-below; told = number-tells; lehmer = lehmer-digits }
