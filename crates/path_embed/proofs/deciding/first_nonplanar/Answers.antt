use Rattle.std.proofs.Common.{arith, below_more}
use Rattle.std.proofs.lemmas.Option.{MatchOption-at_none, MatchOption-at_some}
use Rattle.blocks.specs.Blocks.{block_at}
use Rattle.path_embed.specs.Planar.{IsPlanarPart}
use Rattle.path_embed.specs.Found.{IsObstacle}
use Rattle.path_embed.proofs.deciding.first_nonplanar.Goals as goal

pub loop-b-preserved : goal.loop-b-preserved
loop-b-preserved c =
    let blocks = c.args.blocks.now.blocks in
    below_more (λ i. IsPlanarPart c.args.g.now (block_at blocks i)) c.loop-b.b c.loop-b.invariant (MatchOption-at_none (IsPlanarPart c.args.g.now (block_at blocks c.loop-b.b)) (IsObstacle c.args.g.now) c.in-None.is c.in_ok-answer.ensures)

pub returns-in-Some : goal.returns-in-Some
returns-in-Some c = MatchOption-at_some (IsPlanarPart c.args.g.now (block_at c.args.blocks.now.blocks c.loop-b.b)) (IsObstacle c.args.g.now) c.in-Some.found c.in-Some.is c.in_ok-answer.ensures

pub returns : goal.returns
returns c = λ b l. c.loop-b.invariant b (omega (arith, l, c.loop-b-test.false, c.block_count-b-end.ensures))
