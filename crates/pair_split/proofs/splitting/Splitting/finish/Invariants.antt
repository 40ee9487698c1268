use Rattle.std.proofs.Common.{length}
use Rattle.pair_split.specs.Splitting.{IsSplitting}
use Rattle.pair_split.proofs.splitting.Splitting.finish.Given as goal

abbrev pub invariant-loop-alloc : goal.invariant-loop-alloc
invariant-loop-alloc l = IsSplitting l.g l.splitting.parts.items l.splitting.current.items

abbrev pub decreases-loop-alloc : goal.decreases-loop-alloc
decreases-loop-alloc l = length l.splitting.current.items
