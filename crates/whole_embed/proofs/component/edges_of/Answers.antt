use Rattle.whole_embed.specs.Component.{has_edge}
use Rattle.whole_embed.proofs.Searching.{noted-number}
use Rattle.whole_embed.proofs.component.edges_of.Goals as goal

pub loop-edge-preserved : goal.loop-edge-preserved
loop-edge-preserved c = noted-number (has_edge c.args.graph.now c.args.blocks.now c.args.c) c.loop-edge.edge c.loop-edge.list.items _ c.is_edge_of-wanted.result c.loop-edge.invariant c.is_edge_of-wanted.ensures c.in_ok-note.ensures
