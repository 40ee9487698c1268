use Rattle.spqr_session.proofs.StartFaults.{fault-one, start-no_fault}
use Rattle.spqr_session.proofs.laws.starts.Goals as goal

pub returns : goal.returns
returns c = record {
  one = fault-one;
  none = start-no_fault;
}
