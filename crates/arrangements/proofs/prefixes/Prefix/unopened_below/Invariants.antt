use Rattle.std.proofs.Common.{◌≤◌}
use Rattle.arrangements.specs.Prefixes.{AreOpenedBetween}
use Rattle.arrangements.proofs.prefixes.Prefix.unopened_below.Given as goal

-- the blocks of the edges so far are opened
abbrev pub invariant-loop-count : goal.invariant-loop-count
invariant-loop-count l = record { within : l.count ≤ l.high; opened : AreOpenedBetween l.tables l.self.opened.items l.count l.high }

abbrev pub decreases-loop-count : goal.decreases-loop-count
decreases-loop-count l = l.count
