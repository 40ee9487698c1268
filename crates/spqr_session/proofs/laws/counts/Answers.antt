use Rattle.spqr_session.proofs.CountSteps.{members-counted}
use Rattle.spqr_session.proofs.laws.counts.Goals as goal

pub returns : goal.returns
returns c = members-counted
