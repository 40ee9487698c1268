use Rattle.std.proofs.Common.{take}
use Rattle.arrangements.specs.Prefixes.{IsNoted}
use Rattle.arrangements.proofs.making.lay_first.Given as goal

-- the edges so far are noted
abbrev pub invariant-loop-i : goal.invariant-loop-i
invariant-loop-i l = IsNoted l.tables l.prefix (take l.i l.list)
