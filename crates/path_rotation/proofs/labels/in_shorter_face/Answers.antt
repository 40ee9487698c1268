use Rattle.std.proofs.Common.{arith}
use Rattle.multigraph.specs.Graph.{edge_count}
use Rattle.dart_maps.proofs.Darts.{twin-below}
use Rattle.path_rotation.proofs.labels.in_shorter_face.Goals as goal

pub loop-init : goal.loop-init
loop-init c = record { here = c.requires.dart; there = rw c.twin-other.ensures.is (twin-below (edge_count c.args.g.now) c.args.t c.requires.dart) }

pub bounds-next-twin : goal.bounds-next-twin
bounds-next-twin c = omega (arith, c.requires.darts, c.twin.ensures.is, twin-below (edge_count c.args.g.now) c.loop.here c.loop.invariant.here)

pub bounds-next-twin-in-loop : goal.bounds-next-twin-in-loop
bounds-next-twin-in-loop c = omega (arith, c.requires.darts, c.twin-in-loop.ensures.is, twin-below (edge_count c.args.g.now) c.loop.there c.loop.invariant.there)
