use Rattle.arrangements.proofs.Laws.{cross_is_alternate, kept_in_each_turn, cross_in_each_turn}
use Rattle.arrangements.proofs.blocks_that_alternate.Goals as goal

pub returns : goal.returns
returns c = record { alternate = cross_is_alternate; cross = cross_in_each_turn; kept = kept_in_each_turn }
