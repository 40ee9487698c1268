-- The edge that follows at the vertex is an edge there.
use Rattle.std.proofs.Common.{arith}
use Rattle.permutations.proofs.Arrangements.{contains-from_member}
use Rattle.multigraph.proofs.OtherEnd.{end-in}
use Rattle.rotations.specs.Rotation.{order_at}
use Rattle.faces.proofs.DartLemmas.{order-member, onward-edge}
use Rattle.faces.proofs.steps.dart_onward.Goals as goal

pub succ-requires : goal.succ-requires
succ-requires c =
    let g = c.args.graph.now in
    let r = c.args.rotation.now in
    let v = c.args.vertex in
    let e = c.args.edge in
    let vertex_in = end-in g v e c.requires.graph c.requires.edge_in c.requires.end in
    contains-from_member (order_at r v) e (order-member g r v e c.requires.system vertex_in c.requires.edge_in c.requires.end)

pub dart_from-requires : goal.dart_from-requires
dart_from-requires c =
    let next_in = onward-edge c.args.graph.now c.args.rotation.now c.args.vertex c.args.edge c.requires.graph c.requires.system c.requires.edge_in c.requires.end in
    omega arith
