use Rattle.std.proofs.Common.{sym}
use Rattle.blocks.proofs.Meeting.{meets-yes, meets-more, meets-none}
use Rattle.blocks.proofs.cuts.meets_two.Goals as goal

pub returns-then-numbers-edge : goal.returns-then-numbers-edge
returns-then-numbers-edge c = sym (meets-yes c.args.numbers.now c.args.edges.now c.loop-edge.edge-index c.loop-edge-test.true c.if-numbers-edge.true)

pub loop-edge-preserved : goal.loop-edge-preserved
loop-edge-preserved c = meets-more c.args.numbers.now c.args.edges.now c.loop-edge.edge-index c.loop-edge.invariant c.if-numbers-edge.false

pub returns : goal.returns
returns c = sym (meets-none c.args.numbers.now c.args.edges.now c.loop-edge.edge-index c.loop-edge-test.false c.loop-edge.invariant)
