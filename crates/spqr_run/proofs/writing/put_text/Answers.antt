use Rattle.std.proofs.Common.{◌∙◌}
use Rattle.spqr_run.proofs.Fronts.{piece_written}
use Rattle.spqr_run.proofs.writing.put_text.Goals as goal

pub loop-rest-preserved : goal.loop-rest-preserved
loop-rest-preserved g c = (
  rw c.split_at.ensures.back (piece_written _ _ _ _ _ _ c.loop-rest.invariant.0 c.in_ok-taken.ensures.bytes),
  c.in_ok-taken.ensures.cause.ok ∙ c.loop-rest.invariant.1,
)
