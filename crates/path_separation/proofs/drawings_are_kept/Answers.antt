use Rattle.path_separation.proofs.Drawings.{edge-drawing, finished-drawing, path-drawing}
use Rattle.path_separation.proofs.OtherFaces.{other-faces_stay}
use Rattle.path_separation.proofs.drawings_are_kept.Goals as goal

pub returns : goal.returns
returns c = record { edge = edge-drawing; path = path-drawing; other_faces = other-faces_stay; all_edges = finished-drawing }
