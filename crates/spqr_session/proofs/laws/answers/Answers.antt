use Rattle.spqr_session.proofs.Chains.{has-answer, one-answer, step-keeps}
use Rattle.spqr_session.proofs.laws.answers.Goals as goal

pub returns : goal.returns
returns c = record {
  each = has-answer;
  one = one-answer;
  keeps = step-keeps;
}
