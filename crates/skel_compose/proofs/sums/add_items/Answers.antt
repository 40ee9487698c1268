use Rattle.std.proofs.Common.{◌<◌, ◌≤◌, List, length, ap, subst, arith, Fits-lit}
use Rattle.std.proofs.Math.Facts.{Fits-le}
use Rattle.pair_split.specs.declared.components.Item.{Item}
use Rattle.skel_compose.proofs.EndSums.{first-in, first-small, second-in, second-small}
use Rattle.skel_compose.proofs.Found.{items-few}
use Rattle.skel_compose.proofs.sums.add_items.Goals as goal

pub overflow_cast-i-end : goal.overflow_cast-i-end
overflow_cast-i-end c =
    let y = c.requires.block in
    let h : length c.items-items.result.now ≤ 50000 = omega (arith, ap length c.items-items.ensures, items-few y.0 c.args.tree.now y.1 c.args.k c.requires.node y.2) in
    Fits-le h (Fits-lit tt)

pub bounds-sums-a : goal.bounds-sums-a
bounds-sums-a c =
    let y = c.requires.block in
    let m = subst (λ (z : List Item). c.loop-i.i < length z) c.items-items.ensures c.loop-i-test.true in
    first-in y.0 c.args.tree.now y.1 y.2 c.args.k c.requires.node c.loop-i.i m c.loop-i.sums c.loop-i.invariant.1 c.items-items.result.now c.items-items.ensures

pub bounds-sums-a-in-loop-i : goal.bounds-sums-a-in-loop-i
bounds-sums-a-in-loop-i c =
    let y = c.requires.block in
    let m = subst (λ (z : List Item). c.loop-i.i < length z) c.items-items.ensures c.loop-i-test.true in
    first-in y.0 c.args.tree.now y.1 y.2 c.args.k c.requires.node c.loop-i.i m c.loop-i.sums c.loop-i.invariant.1 c.items-items.result.now c.items-items.ensures

pub overflow_add-sums : goal.overflow_add-sums
overflow_add-sums c =
    let y = c.requires.block in
    let m = subst (λ (z : List Item). c.loop-i.i < length z) c.items-items.ensures c.loop-i-test.true in
    Fits-le (first-small y.0 c.args.tree.now y.1 y.2 c.args.k c.requires.node c.loop-i.i m c.loop-i.sums c.loop-i.invariant.1 c.items-items.result.now c.items-items.ensures) (Fits-lit tt)

pub bounds-sums-b : goal.bounds-sums-b
bounds-sums-b c =
    let y = c.requires.block in
    let m = subst (λ (z : List Item). c.loop-i.i < length z) c.items-items.ensures c.loop-i-test.true in
    second-in y.0 c.args.tree.now y.1 y.2 c.args.k c.requires.node c.loop-i.i m c.loop-i.sums c.loop-i.invariant.1 c.items-items.result.now c.items-items.ensures

pub bounds-sums-b-in-loop-i : goal.bounds-sums-b-in-loop-i
bounds-sums-b-in-loop-i c =
    let y = c.requires.block in
    let m = subst (λ (z : List Item). c.loop-i.i < length z) c.items-items.ensures c.loop-i-test.true in
    second-in y.0 c.args.tree.now y.1 y.2 c.args.k c.requires.node c.loop-i.i m c.loop-i.sums c.loop-i.invariant.1 c.items-items.result.now c.items-items.ensures

pub overflow_add-sums-in-loop-i : goal.overflow_add-sums-in-loop-i
overflow_add-sums-in-loop-i c =
    let y = c.requires.block in
    let m = subst (λ (z : List Item). c.loop-i.i < length z) c.items-items.ensures c.loop-i-test.true in
    Fits-le (second-small y.0 c.args.tree.now y.1 y.2 c.args.k c.requires.node c.loop-i.i m c.loop-i.sums c.loop-i.invariant.1 c.items-items.result.now c.items-items.ensures) (Fits-lit tt)
