use Rattle.std.proofs.Common.{ℕ, ◌<◌}
use Rattle.blocks.specs.Blocks.{block_at}
use Rattle.path_embed.specs.Planar.{IsPlanarPart}
use Rattle.path_embed.proofs.deciding.first_nonplanar.Given as goal

abbrev pub invariant-loop-b : goal.invariant-loop-b
invariant-loop-b l = (i : ℕ) → i < l.b → IsPlanarPart l.g (block_at l.blocks.blocks i)
