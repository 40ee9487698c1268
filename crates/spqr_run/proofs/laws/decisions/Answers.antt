use Rattle.spqr_run.proofs.Agreement.{one_status, one_text, no_refusal, one_work}
use Rattle.spqr_run.proofs.laws.decisions.Goals as goal

pub returns : goal.returns
returns c = record {
  status = one_status c.spelling.ensures.one;
  text = one_text c.spelling.ensures.one;
  accepted = no_refusal c.spelling.ensures.one;
  work = one_work c.spelling.ensures.one;
}
