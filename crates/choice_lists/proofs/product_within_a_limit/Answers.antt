use Rattle.choice_lists.proofs.Numbers.{factorial-product}
use Rattle.choice_lists.proofs.Laws.{within-limit}
use Rattle.choice_lists.proofs.product_within_a_limit.Goals as goal

pub returns : goal.returns
returns c = record { exact = within-limit; factorial = factorial-product }
