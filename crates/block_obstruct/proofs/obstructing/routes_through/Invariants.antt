use Rattle.block_obstruct.specs.Groups.{AreItemRoutes}
use Rattle.block_obstruct.proofs.obstructing.routes_through.Given as goal

abbrev pub invariant-loop-i : goal.invariant-loop-i
invariant-loop-i l = AreItemRoutes l.fn.g l.fn.tree l.fn.k l.i l.routes.items
