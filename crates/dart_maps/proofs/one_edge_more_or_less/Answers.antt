use Rattle.dart_maps.proofs.Drop.{drop-defect}
use Rattle.dart_maps.proofs.Insert.{insert-across, insert-defect, insert-parts}
use Rattle.dart_maps.proofs.one_edge_more_or_less.Goals as goal

pub returns : goal.returns
returns c = record { dropped = drop-defect; inserted = insert-defect; face_parted = insert-parts; across = insert-across }
