use Rattle.skel_compose.specs.Homes.{HasHomes}
use Rattle.skel_compose.proofs.homes.homes_of.Given as goal

abbrev pub invariant-loop-k : goal.invariant-loop-k
invariant-loop-k l = HasHomes l.g l.tree l.k 0 l.homes.items
