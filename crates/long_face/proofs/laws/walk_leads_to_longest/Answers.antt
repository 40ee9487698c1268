use Rattle.long_face.proofs.Final.{walk-longest}
use Rattle.long_face.proofs.laws.walk_leads_to_longest.Goals as goal

pub returns : goal.returns
returns c = walk-longest
