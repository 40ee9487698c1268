use Rattle.std.proofs.Common.{◌<◌, ap, arith, get_or, ℕ}
use Rattle.search_forest.proofs.Grown.{order-in}
use Rattle.search_forest.proofs.HandedOn.{hand-can, hand-can-second, hand-returns}
use Rattle.search_forest.proofs.Lows.{root-passed}
use Rattle.multigraph.specs.Graph.{edge_count}
use Rattle.search_forest.proofs.low_points.Low.hand_on.Goals as goal

pub depth_of-requires : goal.depth_of-requires
depth_of-requires c = omega (arith, order-in c.args.graph.now c.requires.graph c.args.search.now c.requires.over c.args.place c.requires.within, c.requires.vertex, c.requires.over.forest.places.depth)

pub returns-then-depth_of-eq0 : goal.returns-then-depth_of-eq0
returns-then-depth_of-eq0 c =
    root-passed c.args.graph.now c.requires.graph c.args.search.now c.requires.over c.args.self.now (edge_count c.args.graph.now) c.args.place c.requires.within c.requires.low
    (omega (arith, c.if-depth_of-eq0.true, c.depth_of.ensures, ap (λ (z : ℕ). get_or c.args.search.now.depth z 0) c.requires.vertex))

pub parent_of-parent-requires : goal.parent_of-parent-requires
parent_of-parent-requires c = omega (arith, order-in c.args.graph.now c.requires.graph c.args.search.now c.requires.over c.args.place c.requires.within, c.requires.vertex, c.requires.over.forest.places.parent)

pub first_of-first-requires : goal.first_of-first-requires
first_of-first-requires c = omega (arith, order-in c.args.graph.now c.requires.graph c.args.search.now c.requires.over c.args.place c.requires.within, c.requires.vertex, c.requires.low.first_places)

pub second_of-second-requires : goal.second_of-second-requires
second_of-second-requires c = omega (arith, order-in c.args.graph.now c.requires.graph c.args.search.now c.requires.over c.args.place c.requires.within, c.requires.vertex, c.requires.low.second_places)

pub take-requires : goal.take-requires
take-requires c =
    let d : 0 < get_or c.args.search.now.depth c.args.vertex 0 = omega (arith, c.if-depth_of-eq0.false, c.depth_of.ensures) in
    hand-can c.args.graph.now c.requires.graph c.args.search.now c.requires.over c.args.self.now (edge_count c.args.graph.now) c.args.place c.args.vertex c.parent_of-parent.result c.first_of-first.result c.second_of-second.result
    c.requires.within c.requires.low c.requires.vertex d c.parent_of-parent.ensures c.first_of-first.ensures c.second_of-second.ensures c.depths.result.now c.depths.ensures

pub take-requires-2 : goal.take-requires-2
take-requires-2 c =
    let d : 0 < get_or c.args.search.now.depth c.args.vertex 0 = omega (arith, c.if-depth_of-eq0.false, c.depth_of.ensures) in
    hand-can-second c.args.graph.now c.requires.graph c.args.search.now c.requires.over c.args.self.now (edge_count c.args.graph.now) c.args.place c.args.vertex c.parent_of-parent.result c.first_of-first.result c.second_of-second.result
    c.requires.within c.requires.low c.requires.vertex d c.parent_of-parent.ensures c.first_of-first.ensures c.second_of-second.ensures c.take.new.self c.depths.result.now c.depths-2.result.now c.depths.ensures c.depths-2.ensures c.take.ensures

pub returns : goal.returns
returns c =
    let d : 0 < get_or c.args.search.now.depth c.args.vertex 0 = omega (arith, c.if-depth_of-eq0.false, c.depth_of.ensures) in
    hand-returns c.args.graph.now c.requires.graph c.args.search.now c.requires.over c.args.self.now (edge_count c.args.graph.now) c.args.place c.args.vertex c.parent_of-parent.result c.first_of-first.result c.second_of-second.result
    c.requires.within c.requires.low c.requires.vertex d c.parent_of-parent.ensures c.first_of-first.ensures c.second_of-second.ensures c.take.new.self c.take-2.new.self c.depths.result.now c.depths-2.result.now c.depths.ensures c.depths-2.ensures c.take.ensures c.take-2.ensures
