use Rattle.multigraph.specs.Graph.{edge_count}
use Rattle.triangulations.proofs.map.DartMap.head.Goals as goal

pub tail-requires : goal.tail-requires
tail-requires c = c.twin.ensures.within (edge_count c.args.self.now.graph) c.requires
