use Rattle.multigraph.proofs.FirstFault.{first-one, first-none}
use Rattle.multigraph.proofs.laws.first_fault.Goals as goal

pub returns : goal.returns
returns c = record { one = first-one; none = first-none }
