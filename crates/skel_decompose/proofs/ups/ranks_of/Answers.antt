use Rattle.std.proofs.Common.{◌+◌, ◌<◌, length, slice_set, sym, ◌∙◌, subst, arith}
use Rattle.std.proofs.lemmas.List.{get_or_default}
use Rattle.skel_decompose.proofs.FirstParents.{few, number}
use Rattle.skel_decompose.proofs.UpLists.{order-few, HavePlaces, ranks-put, ranks-done}
use Rattle.skel_decompose.proofs.ups.ranks_of.Goals as goal

pub overflow_cast-q : goal.overflow_cast-q
overflow_cast-q c =
    let b = c.requires.block in
    omega (arith, c.loop-q-test.true, c.len-q-end.ensures, order-few b.0 c.args.tree.now b.1 b.2 c.args.order.now.parents.items c.args.order.now.nodes.items c.requires.order c.requires.first, few b.0 c.args.tree.now b.1 b.2, number b.0 c.args.tree.now b.1 b.2)

pub loop-q-preserved : goal.loop-q-preserved
loop-q-preserved c =
    let b = c.requires.block in
    let order = c.args.order.now.nodes.items in
    let l : c.loop-q.q < length order = omega (arith, c.loop-q-test.true, c.len-q-end.ensures) in
    subst (λ z. HavePlaces b.0 c.args.tree.now b.1 b.2 c.args.order.now.parents.items order c.requires.order c.requires.first (c.loop-q.q + 1) (slice_set c.loop-q.ranks.items z c.loop-q.q)) (get_or_default order c.loop-q.q 0 c.index.result.now l ∙ sym c.index.ensures)
    (ranks-put b.0 c.args.tree.now b.1 b.2 c.args.order.now.parents.items order c.requires.order c.requires.first c.loop-q.q c.loop-q.ranks.items c.loop-q.invariant l)

pub returns : goal.returns
returns c =
    let b = c.requires.block in
    ranks-done b.0 c.args.tree.now b.1 b.2 c.args.order.now.parents.items c.args.order.now.nodes.items c.requires.order c.requires.first c.loop-q.ranks.items
    (c.loop-q.invariant.0, λ h l. c.loop-q.invariant.1 h (omega (arith, l, c.loop-q-test.false, c.len-q-end.ensures)))
