use Rattle.graph_theory.proofs.Exchange.{block-reflexive, block-symmetric, block-transitive}
use Rattle.graph_theory.proofs.same_block_is_equivalence.Goals as goal

pub returns : goal.returns
returns c = record { reflexive = block-reflexive; symmetric = block-symmetric; transitive = block-transitive }
