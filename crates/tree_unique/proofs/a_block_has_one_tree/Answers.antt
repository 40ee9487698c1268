use Rattle.tree_unique.proofs.SameTrees.{trees-equal}
use Rattle.tree_unique.proofs.a_block_has_one_tree.Goals as goal

pub returns : goal.returns
returns c = record { equal = trees-equal }
