use Rattle.embed_convert.proofs.Between.{keep-locks}
use Rattle.embed_convert.proofs.laws.moves_keep_locks.Goals as goal

pub returns : goal.returns
returns c = keep-locks
