use Rattle.rotations.proofs.FirstBad.{bad-one, bad-none}
use Rattle.rotations.proofs.laws.first_bad.Goals as goal

pub returns : goal.returns
returns c = record { one = bad-one; none = bad-none }
