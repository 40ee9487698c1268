-- The order so far, and the arrays that keep its last contour.
use Rattle.std.proofs.Common.{◌≡◌, ◌+◌, length}
use Rattle.canonical_orders.specs.State.{IsPartOrder}
use Rattle.canonical_orders.proofs.peeling.peel.Given as goal

abbrev pub invariant-loop : goal.invariant-loop
invariant-loop l = IsPartOrder l.map l.order.items l.contour.left.items l.contour.on.items l.contour.met.items × (length l.order.items + 2 ≡ l.counter)
