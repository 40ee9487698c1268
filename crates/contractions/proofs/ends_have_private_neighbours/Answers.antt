use Rattle.contractions.proofs.PrivateNeighbours.{orient}
use Rattle.contractions.proofs.ends_have_private_neighbours.Goals as goal

pub returns : goal.returns
returns c = record { one = orient }
