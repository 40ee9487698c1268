use Rattle.spqr_session.proofs.ReadBack.{gml-read_back}
use Rattle.spqr_session.proofs.laws.read_back.Goals as goal

pub returns : goal.returns
returns c = gml-read_back
