use Rattle.permutations.proofs.CyclicSame.{same-lists}
use Rattle.permutations.proofs.NormalForm.{from_least-same, same-from_least, mirror-successor, mirror-twice}
use Rattle.permutations.proofs.normal_form_of_cyclic_order.Goals as goal

pub returns : goal.returns
returns c = record { lists = same-lists; orders = λ l k h. (same-from_least l k, λ t. from_least-same l k t h); back = mirror-successor; twice = mirror-twice }
