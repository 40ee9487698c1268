use Rattle.std.proofs.Common.{ℕ, take, get_or, replicate, refl, ap, ◌∙◌, arith}
use Rattle.std.proofs.lemmas.List.{take_all}
use Rattle.palm_tree.proofs.Offsets.{start-offsets, place-returns, place-can, offsets-over}
use Rattle.palm_tree.proofs.numbering.offsets.Goals as goal

pub loop-child-init : goal.loop-child-init
loop-child-init g c = (
  start-offsets c.args.graph.now c.requires.graph c.args.search.now c.requires.over c.args.sizes.now c.requires.sizes c.in_ok-offset.offset.items c.in_ok-filled.filled.items
      (c.in_ok-offset.ensures {u = tt} ∙ ap (λ (k : ℕ). replicate k 0) c.vertex_count.ensures.value) (c.in_ok-filled.ensures {u = tt} ∙ ap (λ (k : ℕ). replicate k 0) c.vertex_count-2.ensures.value),
  omega arith,
)

pub give_place-requires-clause-offset_within : goal.give_place-requires-clause-offset_within
give_place-requires-clause-offset_within g c =
    let w = place-can c.args.graph.now c.requires.graph c.args.search.now c.requires.over c.args.sizes.now c.requires.sizes c.args.children.now c.requires.children c.vertex_count.ensures.limits c.loop-child.child-index (get_or c.args.children.now c.loop-child.child-index 0) c.loop-child.offset.items c.loop-child.filled.items c.loop-child-test.true refl c.loop-child.invariant.0 in
    omega (arith, w.0, c.loop-child.invariant.0.offset_places)

pub give_place-requires-clause-parent_within : goal.give_place-requires-clause-parent_within
give_place-requires-clause-parent_within g c =
    let w = place-can c.args.graph.now c.requires.graph c.args.search.now c.requires.over c.args.sizes.now c.requires.sizes c.args.children.now c.requires.children c.vertex_count.ensures.limits c.loop-child.child-index (get_or c.args.children.now c.loop-child.child-index 0) c.loop-child.offset.items c.loop-child.filled.items c.loop-child-test.true refl c.loop-child.invariant.0 in
    omega (arith, w.0, c.requires.over.forest.places.parent)

pub give_place-requires-clause-sizes_within : goal.give_place-requires-clause-sizes_within
give_place-requires-clause-sizes_within g c =
    let w = place-can c.args.graph.now c.requires.graph c.args.search.now c.requires.over c.args.sizes.now c.requires.sizes c.args.children.now c.requires.children c.vertex_count.ensures.limits c.loop-child.child-index (get_or c.args.children.now c.loop-child.child-index 0) c.loop-child.offset.items c.loop-child.filled.items c.loop-child-test.true refl c.loop-child.invariant.0 in
    omega (arith, w.0, c.requires.sizes.places)

pub give_place-requires-clause-filled_within : goal.give_place-requires-clause-filled_within
give_place-requires-clause-filled_within g c =
    let w = place-can c.args.graph.now c.requires.graph c.args.search.now c.requires.over c.args.sizes.now c.requires.sizes c.args.children.now c.requires.children c.vertex_count.ensures.limits c.loop-child.child-index (get_or c.args.children.now c.loop-child.child-index 0) c.loop-child.offset.items c.loop-child.filled.items c.loop-child-test.true refl c.loop-child.invariant.0 in
    omega (arith, w.1, c.loop-child.invariant.0.filled_places)

pub give_place-requires-clause-fits : goal.give_place-requires-clause-fits
give_place-requires-clause-fits g c =
    let w = place-can c.args.graph.now c.requires.graph c.args.search.now c.requires.over c.args.sizes.now c.requires.sizes c.args.children.now c.requires.children c.vertex_count.ensures.limits c.loop-child.child-index (get_or c.args.children.now c.loop-child.child-index 0) c.loop-child.offset.items c.loop-child.filled.items c.loop-child-test.true refl c.loop-child.invariant.0 in
    w.2

pub loop-child-preserved : goal.loop-child-preserved
loop-child-preserved g c = (
  place-returns c.args.graph.now c.requires.graph c.args.search.now c.requires.over c.args.sizes.now c.requires.sizes c.args.children.now c.requires.children c.loop-child.child-index (get_or c.args.children.now c.loop-child.child-index 0) c.loop-child.offset.items c.loop-child.filled.items
      c.give_place.new.offset.items c.give_place.new.filled.items c.loop-child-test.true refl c.loop-child.invariant.0 c.give_place.ensures.offset c.give_place.ensures.filled,
  omega (arith, c.tick.ensures, c.loop-child.invariant.1),
)

pub returns-clause-offsets : goal.returns-clause-offsets
returns-clause-offsets g c =
    offsets-over c.args.graph.now c.requires.graph c.args.search.now c.requires.over c.args.sizes.now c.requires.sizes c.args.children.now c.requires.children (take c.loop-child.child-index c.args.children.now) c.loop-child.offset.items c.loop-child.filled.items
    (take_all c.loop-child.child-index c.args.children.now (omega (arith, c.loop-child-test.false))) c.loop-child.invariant.0
