use Rattle.arrangements.specs.Prefixes.{AreOpenedBetween}
use Rattle.arrangements.proofs.prefixes.Prefix.unopened_from.Given as goal

-- the blocks of the edges so far are opened
abbrev pub invariant-loop-place : goal.invariant-loop-place
invariant-loop-place l = AreOpenedBetween l.tables l.self.opened.items l.low l.place
