use Rattle.std.proofs.Common.{◌≡◌, ◌<◌, ℕ, List, length, get_or, replicate, ap, ◌∙◌, arith}
use Rattle.search_forest.proofs.Orders.{order-each}
use Rattle.palm_tree.proofs.Numbers.{start-numbers, number-returns, number-can}
use Rattle.palm_tree.proofs.numbering.numbers.Goals as goal

pub loop-vertex-init : goal.loop-vertex-init
loop-vertex-init g c = (start-numbers c.args.graph.now c.requires.graph c.args.search.now c.requires.over c.args.sizes.now c.args.offset.now c.requires.sizes c.requires.room c.in_ok-number.number.items (c.in_ok-number.ensures {u = tt} ∙ ap (λ (k : ℕ). replicate k 0) c.vertex_count.ensures.value), omega arith)

pub give_number-requires-clause-number_within : goal.give_number-requires-clause-number_within
give_number-requires-clause-number_within g c =
    let q : c.order-vertex-items.result.now ≡ c.args.search.now.order = c.order-vertex-items.ensures in
    let l : c.loop-vertex.vertex-index < length c.args.search.now.order = omega (arith, c.loop-vertex-test.true, ap (length {A = ℕ}) q) in
    let e : get_or c.order-vertex-items.result.now c.loop-vertex.vertex-index 0 ≡ get_or c.args.search.now.order c.loop-vertex.vertex-index 0 = ap (λ (z : List ℕ). get_or z c.loop-vertex.vertex-index 0) q in
    let w = number-can c.args.graph.now c.requires.graph c.args.search.now c.requires.over c.args.sizes.now c.args.offset.now c.requires.sizes c.requires.room c.vertex_count.ensures.limits c.loop-vertex.vertex-index (get_or c.order-vertex-items.result.now c.loop-vertex.vertex-index 0) c.loop-vertex.number.items l e c.loop-vertex.invariant.0 in
    omega (arith, w.0, c.loop-vertex.invariant.0.places)

pub give_number-requires-clause-offset_within : goal.give_number-requires-clause-offset_within
give_number-requires-clause-offset_within g c =
    let q : c.order-vertex-items.result.now ≡ c.args.search.now.order = c.order-vertex-items.ensures in
    let l : c.loop-vertex.vertex-index < length c.args.search.now.order = omega (arith, c.loop-vertex-test.true, ap (length {A = ℕ}) q) in
    let e : get_or c.order-vertex-items.result.now c.loop-vertex.vertex-index 0 ≡ get_or c.args.search.now.order c.loop-vertex.vertex-index 0 = ap (λ (z : List ℕ). get_or z c.loop-vertex.vertex-index 0) q in
    let w = number-can c.args.graph.now c.requires.graph c.args.search.now c.requires.over c.args.sizes.now c.args.offset.now c.requires.sizes c.requires.room c.vertex_count.ensures.limits c.loop-vertex.vertex-index (get_or c.order-vertex-items.result.now c.loop-vertex.vertex-index 0) c.loop-vertex.number.items l e c.loop-vertex.invariant.0 in
    omega (arith, w.0, c.requires.places)

pub give_number-requires-clause-parent_within : goal.give_number-requires-clause-parent_within
give_number-requires-clause-parent_within g c =
    let q : c.order-vertex-items.result.now ≡ c.args.search.now.order = c.order-vertex-items.ensures in
    let l : c.loop-vertex.vertex-index < length c.args.search.now.order = omega (arith, c.loop-vertex-test.true, ap (length {A = ℕ}) q) in
    let e : get_or c.order-vertex-items.result.now c.loop-vertex.vertex-index 0 ≡ get_or c.args.search.now.order c.loop-vertex.vertex-index 0 = ap (λ (z : List ℕ). get_or z c.loop-vertex.vertex-index 0) q in
    let w = number-can c.args.graph.now c.requires.graph c.args.search.now c.requires.over c.args.sizes.now c.args.offset.now c.requires.sizes c.requires.room c.vertex_count.ensures.limits c.loop-vertex.vertex-index (get_or c.order-vertex-items.result.now c.loop-vertex.vertex-index 0) c.loop-vertex.number.items l e c.loop-vertex.invariant.0 in
    omega (arith, w.0, c.requires.over.forest.places.parent)

pub give_number-requires-clause-depth_within : goal.give_number-requires-clause-depth_within
give_number-requires-clause-depth_within g c =
    let q : c.order-vertex-items.result.now ≡ c.args.search.now.order = c.order-vertex-items.ensures in
    let l : c.loop-vertex.vertex-index < length c.args.search.now.order = omega (arith, c.loop-vertex-test.true, ap (length {A = ℕ}) q) in
    let e : get_or c.order-vertex-items.result.now c.loop-vertex.vertex-index 0 ≡ get_or c.args.search.now.order c.loop-vertex.vertex-index 0 = ap (λ (z : List ℕ). get_or z c.loop-vertex.vertex-index 0) q in
    let w = number-can c.args.graph.now c.requires.graph c.args.search.now c.requires.over c.args.sizes.now c.args.offset.now c.requires.sizes c.requires.room c.vertex_count.ensures.limits c.loop-vertex.vertex-index (get_or c.order-vertex-items.result.now c.loop-vertex.vertex-index 0) c.loop-vertex.number.items l e c.loop-vertex.invariant.0 in
    omega (arith, w.0, c.requires.over.forest.places.depth)

pub give_number-requires-clause-above_within : goal.give_number-requires-clause-above_within
give_number-requires-clause-above_within g c =
    let q : c.order-vertex-items.result.now ≡ c.args.search.now.order = c.order-vertex-items.ensures in
    let l : c.loop-vertex.vertex-index < length c.args.search.now.order = omega (arith, c.loop-vertex-test.true, ap (length {A = ℕ}) q) in
    let e : get_or c.order-vertex-items.result.now c.loop-vertex.vertex-index 0 ≡ get_or c.args.search.now.order c.loop-vertex.vertex-index 0 = ap (λ (z : List ℕ). get_or z c.loop-vertex.vertex-index 0) q in
    let w = number-can c.args.graph.now c.requires.graph c.args.search.now c.requires.over c.args.sizes.now c.args.offset.now c.requires.sizes c.requires.room c.vertex_count.ensures.limits c.loop-vertex.vertex-index (get_or c.order-vertex-items.result.now c.loop-vertex.vertex-index 0) c.loop-vertex.number.items l e c.loop-vertex.invariant.0 in
    λ d. omega (arith, (w.1 d).0, c.loop-vertex.invariant.0.places)

pub give_number-requires-clause-fits : goal.give_number-requires-clause-fits
give_number-requires-clause-fits g c =
    let q : c.order-vertex-items.result.now ≡ c.args.search.now.order = c.order-vertex-items.ensures in
    let l : c.loop-vertex.vertex-index < length c.args.search.now.order = omega (arith, c.loop-vertex-test.true, ap (length {A = ℕ}) q) in
    let e : get_or c.order-vertex-items.result.now c.loop-vertex.vertex-index 0 ≡ get_or c.args.search.now.order c.loop-vertex.vertex-index 0 = ap (λ (z : List ℕ). get_or z c.loop-vertex.vertex-index 0) q in
    let w = number-can c.args.graph.now c.requires.graph c.args.search.now c.requires.over c.args.sizes.now c.args.offset.now c.requires.sizes c.requires.room c.vertex_count.ensures.limits c.loop-vertex.vertex-index (get_or c.order-vertex-items.result.now c.loop-vertex.vertex-index 0) c.loop-vertex.number.items l e c.loop-vertex.invariant.0 in
    λ d. (w.1 d).1

pub loop-vertex-preserved : goal.loop-vertex-preserved
loop-vertex-preserved g c =
    let q : c.order-vertex-items.result.now ≡ c.args.search.now.order = c.order-vertex-items.ensures in
    let l : c.loop-vertex.vertex-index < length c.args.search.now.order = omega (arith, c.loop-vertex-test.true, ap (length {A = ℕ}) q) in
    let e : get_or c.order-vertex-items.result.now c.loop-vertex.vertex-index 0 ≡ get_or c.args.search.now.order c.loop-vertex.vertex-index 0 = ap (λ (z : List ℕ). get_or z c.loop-vertex.vertex-index 0) q in
    (number-returns c.args.graph.now c.requires.graph c.args.search.now c.requires.over c.args.sizes.now c.args.offset.now c.requires.sizes c.requires.room c.loop-vertex.vertex-index (get_or c.order-vertex-items.result.now c.loop-vertex.vertex-index 0) c.loop-vertex.number.items c.give_number.new.number.items l e c.loop-vertex.invariant.0 c.give_number.ensures, omega (arith, c.tick.ensures, c.loop-vertex.invariant.1))

pub returns-clause-cost : goal.returns-clause-cost
returns-clause-cost g c = omega (arith, c.loop-vertex.invariant.1, c.loop-vertex-test.false, ap (length {A = ℕ}) c.order-vertex-items.ensures, order-each c.args.graph.now c.args.search.now c.requires.over)
