use Rattle.skel_compose.specs.Homes.{HasHomes}
use Rattle.skel_compose.proofs.homes.put_homes.Given as goal

abbrev pub invariant-loop-i : goal.invariant-loop-i
invariant-loop-i l = HasHomes l.g l.tree l.k l.i l.homes
