use Rattle.std.proofs.Common.{arith}
use Rattle.arrangements.proofs.RankPasses.{before-bound}
use Rattle.arrangements.proofs.crossings.count_of.Goals as goal

-- there are no more edges than places
pub overflow_add-count : goal.overflow_add-count
overflow_add-count c = omega (arith, c.loop-i.invariant, before-bound c.args.rank c.args.ranks.now c.loop-i.i (omega (arith, c.loop-i-test.true)), c.loop-i-test.true, c.requires.few)
