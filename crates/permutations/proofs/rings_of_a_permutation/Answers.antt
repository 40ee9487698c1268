use Rattle.permutations.proofs.Rings.{ring-member, ring-distinct, ring-successor}
use Rattle.permutations.proofs.Removal.{ring-taken_out}
use Rattle.permutations.proofs.RingExchange.{ring-joined, ring-parted}
use Rattle.permutations.proofs.rings_of_a_permutation.Goals as goal

pub returns : goal.returns
returns c = record { members = ring-member; once = ring-distinct; follows = ring-successor; taken_out = ring-taken_out; joined = ring-joined; parted = ring-parted }
