-- There is one.
use Rattle.std.proofs.Common.{arith}
use Rattle.std.proofs.lemmas.Bool.{both_ways}
use Rattle.permutations.proofs.Search.{none-some}
use Rattle.permutations.specs.Count.{some}
use Rattle.canonical_orders.specs.State.{can_leave}
use Rattle.canonical_orders.proofs.contour.Contour.some_free.Goals as goal

pub unreachable-requires : goal.unreachable-requires
unreachable-requires c =
    let n = c.args.map.now.graph.vertex_count in
    let test = can_leave c.args.map.now.graph c.args.self.now.on.items c.args.self.now.met.items in
    both_ways (some n test) (none-some n test (λ v l. c.loop-vertex.invariant v (omega (arith, l, c.vertex_count-vertex-end.ensures, c.loop-vertex-test.false)))) c.requires.some_free
