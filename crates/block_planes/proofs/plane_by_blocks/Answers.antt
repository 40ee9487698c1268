use Rattle.block_planes.proofs.BlockLabels.{plane_by_blocks}
use Rattle.block_planes.proofs.plane_by_blocks.Goals as goal

pub returns : goal.returns
returns c = plane_by_blocks
