use Rattle.std.proofs.Common.{arith}
use Rattle.blocks.proofs.Spreading.{parent-in, spread-more}
use Rattle.blocks.proofs.spread.spread_along.Goals as goal

pub label_of-spread-requires-clause-label_within :
    goal.label_of-spread-requires-clause-label_within
label_of-spread-requires-clause-label_within c = λ h.
    omega (arith, parent-in _ c.args.parent.now c.args.own.now c.args.order.now c.requires.order c.loop-vertex.vertex-index c.loop-vertex-test.true h, c.loop-vertex.auto.label)

pub loop-vertex-preserved : goal.loop-vertex-preserved
loop-vertex-preserved c =
    spread-more _ c.args.parent.now c.args.own.now c.args.order.now c.loop-vertex.label c.loop-vertex.vertex-index c.label_of-spread.result c.requires.order c.loop-vertex.auto.label c.loop-vertex-test.true c.loop-vertex.invariant c.label_of-spread.ensures.of_own c.label_of-spread.ensures.of_parent
