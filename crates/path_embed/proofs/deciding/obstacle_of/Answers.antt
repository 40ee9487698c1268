use Rattle.std.proofs.Common.{◌<◌, ℕ, length}
use Rattle.blocks.specs.Blocks.{block_at}
use Rattle.path_embed.specs.Planar.{IsPlanarPart}
use Rattle.path_embed.proofs.Decisions.{decided-blocks, decided-excludes}
use Rattle.path_embed.proofs.deciding.obstacle_of.Goals as goal

pub returns : goal.returns
returns c = record {
  decided = decided-blocks c.args.g.now c.in_ok-blocks.blocks c.in_ok-blocks.ensures c.in_ok-answer.answer c.in_ok-answer.ensures;
  nonplanar = decided-excludes c.args.g.now c.keeps_limits.ensures.graph ((b : ℕ) → b < length c.in_ok-blocks.blocks.blocks → IsPlanarPart c.args.g.now (block_at c.in_ok-blocks.blocks.blocks b)) c.in_ok-answer.answer c.in_ok-answer.ensures;
}
