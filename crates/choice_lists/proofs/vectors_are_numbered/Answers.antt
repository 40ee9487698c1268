use Rattle.choice_lists.proofs.Laws.{selections-digits, place-vector, place-digits}
use Rattle.choice_lists.proofs.vectors_are_numbered.Goals as goal

pub returns : goal.returns
returns c = record { digits = selections-digits; place = place-vector; at_place = place-digits }
