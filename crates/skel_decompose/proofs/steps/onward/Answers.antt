use Rattle.std.proofs.Common.{◌<◌, length, sym, ◌∙◌, subst, arith}
use Rattle.pair_split.specs.Tutte.{node_at}
use Rattle.skel_compose.proofs.Found.{items-few}
use Rattle.skel_compose.proofs.Tables.{place-below}
use Rattle.skel_decompose.proofs.Stepped.{next-is, follower-in, follower-dart}
use Rattle.skel_decompose.proofs.steps.onward.Goals as goal

-- what is read from the table is what follows
pub item_place-requires-2-clause-item : goal.item_place-requires-2-clause-item
item_place-requires-2-clause-item c =
    let w = c.requires.family in
    let same = next-is c.args.tree.now c.args.table.now c.args.k c.args.i c.args.v c.requires.end c.item_place.result c.number-next.result c.item_place.ensures c.number-next.ensures w.0 w.2 in
    subst (λ z. z < length (node_at c.args.tree.now c.args.k).items) (sym same) (follower-in c.requires.block.0 c.args.tree.now c.requires.block.1 c.args.k c.requires.end.is_node w.0 w.1 c.args.i c.args.v c.requires.end)

pub overflow_cast-result : goal.overflow_cast-result
overflow_cast-result c =
    let w = c.requires.family in
    let same = next-is c.args.tree.now c.args.table.now c.args.k c.args.i c.args.v c.requires.end c.item_place.result c.number-next.result c.item_place.ensures c.number-next.ensures w.0 w.2 in
    let l : c.number-next.result < length (node_at c.args.tree.now c.args.k).items =
    subst (λ z. z < length (node_at c.args.tree.now c.args.k).items) (sym same) (follower-in c.requires.block.0 c.args.tree.now c.requires.block.1 c.args.k c.requires.end.is_node w.0 w.1 c.args.i c.args.v c.requires.end) in
    omega (arith, c.item_place-2.ensures, place-below c.args.tree.now c.args.k c.number-next.result c.args.v (length (node_at c.args.tree.now c.args.k).items) l, items-few c.requires.block.0 c.args.tree.now c.requires.block.1 c.args.k c.requires.end.is_node c.requires.block.2)

pub returns : goal.returns
returns c = λ family f h. c.item_place-2.ensures ∙ follower-dart c.requires.block.0 c.args.tree.now c.requires.block.1 c.args.k c.requires.end.is_node family f c.args.i c.args.v c.requires.end c.number-next.result
    (next-is c.args.tree.now c.args.table.now c.args.k c.args.i c.args.v c.requires.end c.item_place.result c.number-next.result c.item_place.ensures c.number-next.ensures family h)
