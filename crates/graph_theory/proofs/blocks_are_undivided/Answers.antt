use Rattle.graph_theory.proofs.Crossings.{block-one_side}
use Rattle.graph_theory.proofs.blocks_are_undivided.Goals as goal

pub returns : goal.returns
returns c = record { undivided = block-one_side }
