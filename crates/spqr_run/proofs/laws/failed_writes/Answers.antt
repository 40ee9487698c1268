use Rattle.spqr_run.proofs.Texts.{front-of_whole}
use Rattle.spqr_run.proofs.laws.failed_writes.Goals as goal

pub returns : goal.returns
returns c = front-of_whole
