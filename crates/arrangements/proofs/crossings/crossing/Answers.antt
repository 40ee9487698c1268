use Rattle.std.proofs.Common.{arith}
use Rattle.arrangements.proofs.RankPasses.{crossed-none}
use Rattle.arrangements.proofs.crossings.crossing.Goals as goal

-- no rank crosses another
pub returns-clause-least : goal.returns-clause-least
returns-clause-least c = crossed-none c.args.ranks.now c.args.bound c.requires.below (λ d e h. c.loop-rank.invariant.none d e (omega (arith, h, c.loop-rank-test.false, c.loop-rank.auto.rank-end)))
