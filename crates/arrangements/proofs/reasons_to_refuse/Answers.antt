use Rattle.arrangements.proofs.Laws.{arranged_or_refused}
use Rattle.arrangements.proofs.reasons_to_refuse.Goals as goal

pub returns : goal.returns
returns c = arranged_or_refused
