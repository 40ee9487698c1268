use Rattle.dart_maps.proofs.Euler.{euler}
use Rattle.dart_maps.proofs.eulers_inequality.Goals as goal

pub returns : goal.returns
returns c = euler
