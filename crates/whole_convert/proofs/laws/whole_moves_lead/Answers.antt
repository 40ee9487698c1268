use Rattle.whole_convert.proofs.CutStages.{whole_moves_lead}
use Rattle.whole_convert.proofs.laws.whole_moves_lead.Goals as goal

pub returns : goal.returns
returns c = whole_moves_lead
