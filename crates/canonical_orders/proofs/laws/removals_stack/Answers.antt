use Rattle.canonical_orders.proofs.Stacking.{removal-stacked}
use Rattle.canonical_orders.proofs.laws.removals_stack.Goals as goal

pub returns : goal.returns
returns c = removal-stacked
