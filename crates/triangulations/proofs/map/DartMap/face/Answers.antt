use Rattle.multigraph.specs.Graph.{edge_count}
use Rattle.triangulations.proofs.map.DartMap.face.Goals as goal

pub next-requires : goal.next-requires
next-requires c = c.twin.ensures.within (edge_count c.args.self.now.graph) c.requires
