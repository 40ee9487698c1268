use Rattle.std.proofs.Common.{◌≡◌, ◌+◌, ◌-◌, ℕ, [], length, drop, replicate, sym, ap, ◌∙◌, subst, arith}
use Rattle.std.proofs.Math.Seq.{drop-length}
use Rattle.palm_tree.specs.Growing.{AreSizesSoFar}
use Rattle.search_forest.proofs.Orders.{order-each}
use Rattle.palm_tree.proofs.SizesHanded.{start-sizes}
use Rattle.palm_tree.proofs.sizes.sizes_below.Goals as goal

pub loop-behind-init : goal.loop-behind-init
loop-behind-init g c =
    let e : length c.args.search.now.order ≡ length c.args.search.now.order - 0 = omega arith in
    let b : drop (length c.args.search.now.order - 0) c.args.search.now.order ≡ [] = ap (λ (k : ℕ). drop k c.args.search.now.order) (sym e) ∙ drop-length c.args.search.now.order in (
      subst (AreSizesSoFar c.args.graph.now c.args.search.now c.in_ok-sizes.sizes.items) (sym b)
          (start-sizes c.args.graph.now c.requires.graph c.args.search.now c.requires.over c.in_ok-sizes.sizes.items (c.in_ok-sizes.ensures {u = tt} ∙ ap (λ (k : ℕ). replicate k 1) c.vertex_count.ensures.value)),
      omega arith,
    )

pub hand_on-requires-clause-sizes : goal.hand_on-requires-clause-sizes
hand_on-requires-clause-sizes g c =
    let e : length c.args.search.now.order - c.loop-behind.behind ≡ length c.order-order.result.now - 1 - c.loop-behind.behind + 1 = omega (arith, ap (length {A = ℕ}) c.order-order.ensures, c.loop-behind-test.true) in
    subst (λ (k : ℕ). AreSizesSoFar c.args.graph.now c.args.search.now c.loop-behind.sizes.items (drop k c.args.search.now.order)) e c.loop-behind.invariant.0

pub loop-behind-preserved : goal.loop-behind-preserved
loop-behind-preserved g c =
    let e : length c.order-order.result.now - 1 - c.loop-behind.behind ≡ length c.args.search.now.order - (c.loop-behind.behind + 1) = omega (arith, ap (length {A = ℕ}) c.order-order.ensures) in
    (subst (λ (k : ℕ). AreSizesSoFar c.args.graph.now c.args.search.now c.hand_on.new.sizes.items (drop k c.args.search.now.order)) e c.hand_on.ensures, omega (arith, c.tick.ensures, c.loop-behind.invariant.1))

pub returns-clause-cost : goal.returns-clause-cost
returns-clause-cost g c = omega (arith, c.loop-behind.invariant.1, c.loop-behind-test.false, ap (length {A = ℕ}) c.order-order.ensures, order-each c.args.graph.now c.args.search.now c.requires.over)
