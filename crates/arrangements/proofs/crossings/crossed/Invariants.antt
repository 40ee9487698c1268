use Rattle.std.proofs.Common.{◌≡◌, length}
use Rattle.arrangements.specs.Crossings.{IsPassed}
use Rattle.arrangements.proofs.crossings.crossed.Given as goal

-- the places so far
abbrev pub invariant-loop-i : goal.invariant-loop-i
invariant-loop-i l = record {
  passed : IsPassed l.rank l.ranks l.met l.i l.pass.before l.pass.least;
  size : length l.met ≡ length l.fn.met;
}
