use Rattle.std.proofs.Common.{arith}
use Rattle.permutations.proofs.Search.{none-some}
use Rattle.multigraph.specs.Graph.{edge_count}
use Rattle.minimal_graphs.specs.Whole.{joins}
use Rattle.minimal_graphs.proofs.reading.edge_between.Goals as goal

pub returns : goal.returns
returns c = none-some (edge_count c.args.g.now) (joins c.args.g.now c.args.u c.args.v) (λ i l. c.loop-e.invariant i (omega (arith, l, c.loop-e-test.false, c.edge_count-e-end.ensures.value)))
