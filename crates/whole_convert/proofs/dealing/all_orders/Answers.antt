use Rattle.std.proofs.Common.{◌≡◌, ◌<◌, true, length, sym, ap, subst, arith}
use Rattle.permutations.specs.Members.{is_member}
use Rattle.permutations.proofs.Arrangements.{member-at}
use Rattle.multigraph.specs.Graph.{Multigraph}
use Rattle.whole_convert.proofs.dealing.all_orders.Goals as goal

pub order_around-requires-clause-vertex : goal.order_around-requires-clause-vertex
order_around-requires-clause-vertex c =
    let part = c.args.part.now in
    let l : c.loop-i.i < length part.vertices =
    omega (arith, c.loop-i-test.true, c.vertex_count-i-end.ensures.value, ap (λ (g : Multigraph). g.vertex_count) c.graph.ensures.value, c.keeps_numbers.ensures.vertex_each) in
    subst (λ z. is_member z part.vertices ≡ true) (sym c.vertex.ensures) (member-at part.vertices c.loop-i.i 0 l)
