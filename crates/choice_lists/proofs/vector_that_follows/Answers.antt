use Rattle.choice_lists.proofs.Products.{last-or-next}
use Rattle.choice_lists.proofs.Laws.{next-vector, last-none}
use Rattle.choice_lists.proofs.vector_that_follows.Goals as goal

pub returns : goal.returns
returns c = record { follows = next-vector; some = λ lists v s. last-or-next lists v s; none = last-none }
