use Rattle.std.proofs.Common.{◌≤◌}
use Rattle.skel_decompose.specs.Ups.{HaveUps}
use Rattle.skel_decompose.proofs.ups.note_ups.Given as goal

abbrev pub invariant-loop-i : goal.invariant-loop-i
invariant-loop-i l = (1 ≤ l.i) × HaveUps l.tree l.k l.i l.ups
