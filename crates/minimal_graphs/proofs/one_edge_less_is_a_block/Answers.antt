use Rattle.minimal_graphs.proofs.Without.{without-block}
use Rattle.minimal_graphs.proofs.one_edge_less_is_a_block.Goals as goal

pub returns : goal.returns
returns c = without-block
