use Rattle.std.proofs.Common.{◌<◌, ◌∙◌, slice_index_or, sym, ap, subst, arith}
use Rattle.skel_compose.specs.Followers.{row_at}
use Rattle.skel_compose.proofs.Found.{behind-is}
use Rattle.skel_compose.proofs.Tables.{place-within}
use Rattle.skel_compose.proofs.walking.item_behind.Goals as goal

pub item_place-requires-clause-node : goal.item_place-requires-clause-node
item_place-requires-clause-node c = c.requires.end.is_node

pub item_place-requires-clause-item : goal.item_place-requires-clause-item
item_place-requires-clause-item c = c.requires.end.is_item

-- the place is in the row
pub number-requires-clause-list : goal.number-requires-clause-list
number-requires-clause-list c = subst (λ n. c.args.k < n) (sym c.requires.table.each) c.requires.end.is_node

pub number-requires-clause-place : goal.number-requires-clause-place
number-requires-clause-place c = omega (arith, c.item_place.ensures, place-within c.args.tree.now c.args.table.now c.requires.table c.args.k c.args.i c.args.v c.requires.end)

-- what it has there follows in each family that the table is of
pub returns-clause-item : goal.returns-clause-item
returns-clause-item c =
    let end = c.requires.end in
    let t = c.requires.family.1 in
    (behind-is c.requires.block.0 c.args.tree.now c.requires.block.1 c.args.k end.is_node c.requires.family.0 t.systems c.args.v c.args.i end.is_item end.end c.number.result
    (c.number.ensures ∙ ap (λ z. slice_index_or (row_at c.args.table.now c.args.k) z 0) c.item_place.ensures ∙ t.followers c.args.k c.args.i c.args.v end)).0

pub returns-clause-end : goal.returns-clause-end
returns-clause-end c =
    let end = c.requires.end in
    let t = c.requires.family.1 in
    (behind-is c.requires.block.0 c.args.tree.now c.requires.block.1 c.args.k end.is_node c.requires.family.0 t.systems c.args.v c.args.i end.is_item end.end c.number.result
    (c.number.ensures ∙ ap (λ z. slice_index_or (row_at c.args.table.now c.args.k) z 0) c.item_place.ensures ∙ t.followers c.args.k c.args.i c.args.v end)).1

pub returns-clause-key : goal.returns-clause-key
returns-clause-key c = λ family t.
    let end = c.requires.end in
    (behind-is c.requires.block.0 c.args.tree.now c.requires.block.1 c.args.k end.is_node family t.systems c.args.v c.args.i end.is_item end.end c.number.result
    (c.number.ensures ∙ ap (λ z. slice_index_or (row_at c.args.table.now c.args.k) z 0) c.item_place.ensures ∙ t.followers c.args.k c.args.i c.args.v end)).2
