use Rattle.dart_maps.proofs.Plane.{corner-cut}
use Rattle.dart_maps.proofs.corner_cut.Goals as goal

pub returns : goal.returns
returns c = corner-cut
