use Rattle.made_summary.proofs.OneSummary.{one-summary}
use Rattle.made_summary.proofs.laws.summaries_are_unique.Goals as goal

pub returns : goal.returns
returns c = one-summary
