use Rattle.contractions.proofs.Neighbours.{incident-three}
use Rattle.contractions.proofs.triconnected_degrees.Goals as goal

pub returns : goal.returns
returns c = record { three = incident-three }
