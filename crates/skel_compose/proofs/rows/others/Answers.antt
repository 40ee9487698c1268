use Rattle.std.proofs.Common.{◌∙◌, ◌-◌, ◌≤◌, ℕ, List, [], ◌∷◌, ◌++◌, length, slice_index_or, ap, subst, arith, Fits-lit}
use Rattle.std.proofs.Math.Facts.{Fits-le}
use Rattle.skeletons.specs.Items.{nth_item}
use Rattle.skeletons.specs.Families.{skeleton_graph}
use Rattle.skel_compose.specs.Followers.{HasNext}
use Rattle.skel_compose.proofs.Found.{items-few}
use Rattle.skel_compose.proofs.RowLists.{next-more, row-made}
use Rattle.skel_compose.proofs.PolygonRows.{first-in, second-in, first-enough, second-enough, first-other, second-other}
use Rattle.skel_compose.proofs.rows.others.Goals as goal

pub overflow_cast-i-end : goal.overflow_cast-i-end
overflow_cast-i-end c =
    let y = c.requires.block in
    let h : length c.items-items.result.now ≤ 50000 = omega (arith, ap length c.items-items.ensures, items-few y.0 c.args.tree.now y.1 c.args.k c.requires.polygon.0 y.2) in
    Fits-le h (Fits-lit tt)

pub bounds-sums-a : goal.bounds-sums-a
bounds-sums-a c = first-in c.requires.block.0 c.args.tree.now c.requires.block.1 c.args.k c.requires.polygon c.args.sums.now c.requires.sums c.loop-i.i c.items-items.result.now c.items-items.ensures c.loop-i-test.true

pub overflow_sub-first : goal.overflow_sub-first
overflow_sub-first c = first-enough c.requires.block.0 c.args.tree.now c.requires.block.1 c.args.k c.requires.polygon c.args.sums.now c.requires.sums c.loop-i.i c.items-items.result.now c.items-items.ensures c.loop-i-test.true

pub bounds-sums-b : goal.bounds-sums-b
bounds-sums-b c = second-in c.requires.block.0 c.args.tree.now c.requires.block.1 c.args.k c.requires.polygon c.args.sums.now c.requires.sums c.loop-i.i c.items-items.result.now c.items-items.ensures c.loop-i-test.true

pub overflow_sub-second : goal.overflow_sub-second
overflow_sub-second c = second-enough c.requires.block.0 c.args.tree.now c.requires.block.1 c.args.k c.requires.polygon c.args.sums.now c.requires.sums c.loop-i.i c.items-items.result.now c.items-items.ensures c.loop-i-test.true

-- one item more
pub loop-i-preserved : goal.loop-i-preserved
loop-i-preserved c = λ s system.
    let g = c.requires.block.0 in
    let nodes = c.args.tree.now in
    let b = c.requires.block.1 in
    let k = c.args.k in
    let i = c.loop-i.i in
    let item = nth_item c.items-items.result.now i in
    let second = slice_index_or c.args.sums.now item.b 0 - i in
    next-more (skeleton_graph nodes k) s i (slice_index_or c.args.sums.now item.a 0 - i) second c.loop-i.row.items (c.loop-i.invariant s system)
    (first-other g nodes b k c.requires.polygon c.args.sums.now c.requires.sums i c.items-items.result.now c.items-items.ensures c.loop-i-test.true s system)
    (second-other g nodes b k c.requires.polygon c.args.sums.now c.requires.sums i c.items-items.result.now c.items-items.ensures c.loop-i-test.true s system)
    c.push-in-loop-i.new.self.items (c.in_ok-push-2.ensures.items ∙ ap (λ (z : List ℕ). z ++ second ∷ []) c.in_ok-push.ensures.items)

-- all of them
pub returns : goal.returns
returns c = λ s system.
    let nodes = c.args.tree.now in
    let k = c.args.k in
    row-made c.requires.block.0 nodes c.requires.block.1 k c.requires.polygon.0 s c.loop-i.row.items
    (subst (λ n. HasNext (skeleton_graph nodes k) s n c.loop-i.row.items) (omega (arith, c.loop-i-test.false, c.loop-i.auto.i-end, ap length c.items-items.ensures)) (c.loop-i.invariant s system))
