use Rattle.std.proofs.Common.{take}
use Rattle.rotations.proofs.Marks.{AreMet}
use Rattle.rotations.proofs.arrangement.is_arrangement.Given as goal

-- the edges so far are met
abbrev pub invariant-loop-e : goal.invariant-loop-e
invariant-loop-e l = AreMet l.g l.v (take l.e-index l.list) l.seen
