use Rattle.spqr_run.proofs.Forms.{only-summary, asked-planar}
use Rattle.spqr_run.proofs.laws.made_graphs.Goals as goal

pub returns : goal.returns
returns c = record { summary = only-summary; planar = asked-planar }
