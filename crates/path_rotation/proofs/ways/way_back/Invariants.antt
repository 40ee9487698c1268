-- The way back so far.
use Rattle.path_rotation.specs.Search.{IsWayBack}
use Rattle.path_rotation.proofs.ways.way_back.Given as goal

abbrev pub invariant-loop : goal.invariant-loop
invariant-loop l = IsWayBack l.fn.g l.fn.on l.fn.depth l.fn.z l.at l.path.items
