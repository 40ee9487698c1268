use Rattle.embed_enum.proofs.Counts.{before-mirror}
use Rattle.embed_enum.proofs.ranking.is_before_mirror.Goals as goal

pub returns : goal.returns
returns c = before-mirror c.args.keys.now c.requires
