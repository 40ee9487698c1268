use Rattle.std.proofs.Common.{◌∙◌, sym}
use Rattle.kuratowski.proofs.FreePaths.{free_walk-stops}
use Rattle.kuratowski.proofs.checking.walk.Goals as goal

pub returns-then-not-mark : goal.returns-then-not-mark
returns-then-not-mark c =
    sym c.loop-edge.invariant.free ∙
    free_walk-stops c.args.g.now c.loop-edge.marks c.loop-edge.at c.args.edges.now c.loop-edge.edge-index c.loop-edge-test.true (sym c.mark.ensures.free ∙ c.if-not-mark.true)
