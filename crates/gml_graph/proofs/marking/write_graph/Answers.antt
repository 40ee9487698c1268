-- A pair is no deeper than the graph.
use Rattle.std.proofs.Common.{arith}
use Rattle.gml_text.proofs.Lines.{depth-pair}
use Rattle.gml_graph.proofs.marking.write_graph.Goals as goal

pub write_graph_pair-requires : goal.write_graph_pair-requires
write_graph_pair-requires c = omega (arith, c.requires, depth-pair c.args.graph.now c.loop-pair.pair-index c.pair-item.result c.loop-pair-test.true c.pair-item.is)
