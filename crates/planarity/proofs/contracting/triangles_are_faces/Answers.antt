use Rattle.planarity.proofs.Triangle.{triangle-face, triangle-face_once}
use Rattle.planarity.proofs.contracting.triangles_are_faces.Goals as goal

pub returns : goal.returns
returns c = record { face = triangle-face; once = triangle-face_once }
