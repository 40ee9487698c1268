-- The look along the edges so far.
use Rattle.faces.specs.Search.{LooksAlong}
use Rattle.faces.proofs.components.visit.Given as goal

abbrev pub invariant-loop-edge : goal.invariant-loop-edge
invariant-loop-edge l = LooksAlong l.graph l.vertex l.edge-index l.initial.marks l.initial.stack.items l.marks l.stack.items
