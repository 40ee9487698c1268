use Rattle.long_face.proofs.Greatest.{table-bounds}
use Rattle.long_face.proofs.laws.weights_bound_faces.Goals as goal

pub returns : goal.returns
returns c = table-bounds
