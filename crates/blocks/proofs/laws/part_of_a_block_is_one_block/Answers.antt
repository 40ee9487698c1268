use Rattle.blocks.proofs.BlockParts.{part-one_block}
use Rattle.blocks.proofs.laws.part_of_a_block_is_one_block.Goals as goal

pub returns : goal.returns
returns c = λ g s b part is l h. part-one_block g s.blocks b part is.blocks l h
