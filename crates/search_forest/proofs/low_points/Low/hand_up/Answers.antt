use Rattle.std.proofs.Common.{◌≡◌, ◌+◌, ◌-◌, ℕ, length, drop, ap, subst, arith}
use Rattle.multigraph.specs.Graph.{edge_count}
use Rattle.search_forest.specs.Low.{AreLowSoFar}
use Rattle.search_forest.proofs.low_points.Low.hand_up.Goals as goal

pub hand_on-requires-clause-low : goal.hand_on-requires-clause-low
hand_on-requires-clause-low g c =
    let e : length c.args.search.now.order - c.loop-after.after ≡ length c.order-order.result.now - 1 - c.loop-after.after + 1 = omega (arith, ap (length {A = ℕ}) c.order-order.ensures, c.loop-after-test.true) in
    subst (λ (k : ℕ). AreLowSoFar c.args.graph.now c.args.search.now c.loop-after.self (edge_count c.args.graph.now) (drop k c.args.search.now.order)) e c.loop-after.invariant.0

pub loop-after-preserved : goal.loop-after-preserved
loop-after-preserved g c =
    let e : length c.order-order.result.now - 1 - c.loop-after.after ≡ length c.args.search.now.order - (c.loop-after.after + 1) = omega (arith, ap (length {A = ℕ}) c.order-order.ensures) in
    (subst (λ (k : ℕ). AreLowSoFar c.args.graph.now c.args.search.now c.hand_on.new.self (edge_count c.args.graph.now) (drop k c.args.search.now.order)) e c.hand_on.ensures, omega (arith, c.tick.ensures, c.loop-after.invariant.1))
