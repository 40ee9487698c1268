use Rattle.permutations.proofs.Injection.{count-injection, pigeonhole}
use Rattle.permutations.proofs.pigeonhole_principle.Goals as goal

pub returns : goal.returns
returns c = record { shared = pigeonhole; injections = count-injection }
