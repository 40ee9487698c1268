use Rattle.contractions.proofs.Contracted.{graph-contracted}
use Rattle.contractions.proofs.ContractedTriconnected.{triconnected-contracted}
use Rattle.contractions.proofs.ContractionMade.{contracted-is}
use Rattle.contractions.proofs.contractions_are_triconnected.Goals as goal

pub returns : goal.returns
returns c = record { graph = graph-contracted; triconnected = triconnected-contracted; made = contracted-is }
