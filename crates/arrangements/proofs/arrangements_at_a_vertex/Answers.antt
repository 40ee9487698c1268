use Rattle.arrangements.proofs.Laws.{arrangements_are_listed, first_is_first}
use Rattle.arrangements.proofs.arrangements_at_a_vertex.Goals as goal

pub returns : goal.returns
returns c = record { listed = arrangements_are_listed; first = first_is_first }
