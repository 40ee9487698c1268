use Rattle.std.proofs.Common.{◌<◌, ℕ, ap, arith, get_or}
use Rattle.search_forest.proofs.Grown.{order-in}
use Rattle.palm_tree.proofs.SizesHanded.{root-size, size-returns, size-fits}
use Rattle.palm_tree.proofs.sizes.hand_on.Goals as goal

pub depth_of-requires : goal.depth_of-requires
depth_of-requires c = omega (arith, order-in c.args.graph.now c.requires.graph c.args.search.now c.requires.over c.args.place c.requires.within, c.requires.vertex, c.requires.over.forest.places.depth)

pub parent_of-requires : goal.parent_of-requires
parent_of-requires c = omega (arith, order-in c.args.graph.now c.requires.graph c.args.search.now c.requires.over c.args.place c.requires.within, c.requires.vertex, c.requires.over.forest.places.parent)

pub add_size-requires-clause-within : goal.add_size-requires-clause-within
add_size-requires-clause-within c =
    let d : 0 < get_or c.args.search.now.depth c.args.vertex 0 = omega (arith, c.if-depth_of-gt0.true, c.depth_of.ensures) in
    (size-fits c.args.graph.now c.requires.graph c.args.search.now c.requires.over c.requires.limits c.args.sizes.now.items c.args.place c.args.vertex c.parent_of.result c.requires.within c.requires.sizes c.requires.vertex d c.parent_of.ensures).0

pub add_size-requires-clause-other_within : goal.add_size-requires-clause-other_within
add_size-requires-clause-other_within c =
    let d : 0 < get_or c.args.search.now.depth c.args.vertex 0 = omega (arith, c.if-depth_of-gt0.true, c.depth_of.ensures) in
    (size-fits c.args.graph.now c.requires.graph c.args.search.now c.requires.over c.requires.limits c.args.sizes.now.items c.args.place c.args.vertex c.parent_of.result c.requires.within c.requires.sizes c.requires.vertex d c.parent_of.ensures).1

pub add_size-requires-clause-fits : goal.add_size-requires-clause-fits
add_size-requires-clause-fits c =
    let d : 0 < get_or c.args.search.now.depth c.args.vertex 0 = omega (arith, c.if-depth_of-gt0.true, c.depth_of.ensures) in
    (size-fits c.args.graph.now c.requires.graph c.args.search.now c.requires.over c.requires.limits c.args.sizes.now.items c.args.place c.args.vertex c.parent_of.result c.requires.within c.requires.sizes c.requires.vertex d c.parent_of.ensures).2

pub returns-then-depth_of-gt0 : goal.returns-then-depth_of-gt0
returns-then-depth_of-gt0 c =
    let d : 0 < get_or c.args.search.now.depth c.args.vertex 0 = omega (arith, c.if-depth_of-gt0.true, c.depth_of.ensures) in
    size-returns c.args.graph.now c.requires.graph c.args.search.now c.requires.over c.args.sizes.now.items c.add_size.new.sizes.items c.args.place c.args.vertex c.parent_of.result c.requires.within c.requires.sizes c.requires.vertex d c.parent_of.ensures c.add_size.ensures

pub returns-else-depth_of-gt0 : goal.returns-else-depth_of-gt0
returns-else-depth_of-gt0 c =
    root-size c.args.graph.now c.requires.graph c.args.search.now c.requires.over c.args.sizes.now.items c.args.place c.requires.within c.requires.sizes
    (omega (arith, c.if-depth_of-gt0.false, c.depth_of.ensures, ap (λ (z : ℕ). get_or c.args.search.now.depth z 0) c.requires.vertex))
