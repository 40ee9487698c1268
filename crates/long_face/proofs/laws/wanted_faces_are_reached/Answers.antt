use Rattle.long_face.proofs.Greatest.{wanted-reached}
use Rattle.long_face.proofs.laws.wanted_faces_are_reached.Goals as goal

pub returns : goal.returns
returns c = wanted-reached
