-- The arms so far are entered.
use Rattle.canonical_orders.proofs.Entering.{IsEntering}
use Rattle.canonical_orders.proofs.contour.Contour.enter_all.Given as goal

abbrev pub invariant-loop-arm : goal.invariant-loop-arm
invariant-loop-arm l = IsEntering l.map l.arms l.arm-index l.initial.self.left.items l.initial.self.on.items l.self.left.items l.self.on.items l.self.met.items
