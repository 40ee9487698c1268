use Rattle.faces.proofs.MapCounts.{euler-inequality}
use Rattle.faces.proofs.laws.eulers_inequality.Goals as goal

pub returns : goal.returns
returns c = euler-inequality
