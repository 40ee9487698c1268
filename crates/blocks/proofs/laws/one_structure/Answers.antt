use Rattle.blocks.proofs.OneStructure.{one-structure}
use Rattle.blocks.proofs.laws.one_structure.Goals as goal

pub returns : goal.returns
returns c = one-structure
