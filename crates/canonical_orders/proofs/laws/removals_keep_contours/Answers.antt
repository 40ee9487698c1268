use Rattle.canonical_orders.proofs.Removing.{removal-keeps}
use Rattle.canonical_orders.proofs.laws.removals_keep_contours.Goals as goal

pub returns : goal.returns
returns c = removal-keeps
