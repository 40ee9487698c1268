use Rattle.contractions.proofs.ContractibleEdges.{contractible_exists}
use Rattle.contractions.proofs.Tests.{contractible-exact, contractible-turned}
use Rattle.contractions.proofs.edges_may_be_contracted.Goals as goal

pub returns : goal.returns
returns c = record { some = contractible_exists; tested = contractible-exact; either_way = contractible-turned }
