use Rattle.multigraph.specs.Graph.{edge_count}
use Rattle.multigraph.proofs.darts.head.Goals as goal

pub tail-requires : goal.tail-requires
tail-requires c = c.twin.ensures.within (edge_count c.args.graph.now) c.requires
