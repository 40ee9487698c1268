use Rattle.std.proofs.Common.{arith}
use Rattle.pair_split.proofs.SplitSteps.{graph-pushed}
use Rattle.pair_split.proofs.splitting.graph_edges.Goals as goal

pub loop-e-preserved : goal.loop-e-preserved
loop-e-preserved g c = (
  graph-pushed c.args.g.now c.loop-e.e c.ends-first.result.0 c.ends-first.result.1 c.loop-e.edges.items c.push.new.self.items c.ends-first.ensures.value c.in_ok-push.ensures.items c.loop-e.invariant.0,
  omega (arith, c.tick.ensures, c.loop-e.invariant.1),
)
