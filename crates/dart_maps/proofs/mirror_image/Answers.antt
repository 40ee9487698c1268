use Rattle.dart_maps.proofs.Mirror.{mirror-counts, mirror-plane}
use Rattle.dart_maps.proofs.mirror_image.Goals as goal

pub returns : goal.returns
returns c = record { counts = mirror-counts; plane = mirror-plane }
