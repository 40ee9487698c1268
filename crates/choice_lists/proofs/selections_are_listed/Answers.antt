use Rattle.choice_lists.proofs.Products.{product-length}
use Rattle.choice_lists.proofs.Laws.{selections-listed, first-vector, last-vector, last-mirrored}
use Rattle.choice_lists.proofs.selections_are_listed.Goals as goal

pub returns : goal.returns
returns c = record { listed = selections-listed; counted = λ lists. product-length lists; first = first-vector; last = last-vector; mirrored = last-mirrored }
