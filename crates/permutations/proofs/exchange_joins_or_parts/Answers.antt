use Rattle.permutations.proofs.Iterates.{orbit-reaches}
use Rattle.permutations.proofs.Transpositions.{exchange-count-join, exchange-count-split}
use Rattle.permutations.proofs.exchange_joins_or_parts.Goals as goal

pub returns : goal.returns
returns c = record { reached = orbit-reaches; joins = exchange-count-join; parts = exchange-count-split }
