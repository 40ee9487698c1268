use Rattle.dart_maps.proofs.InsertPath.{path-defect, path-face, path-rings}
use Rattle.dart_maps.proofs.path_into_a_face.Goals as goal

pub returns : goal.returns
returns c = record { defect = path-defect; faces = path-rings; in_one_face = path-face }
