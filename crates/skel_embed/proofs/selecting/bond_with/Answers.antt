use Rattle.std.proofs.Common.{◌≡◌, ◌∙◌, ◌≤◌, List, true, length, map, sym, ap, subst}
use Rattle.permutations.specs.Members.{is_member, place_of}
use Rattle.multigraph.specs.Graph.{max_edges}
use Rattle.multigraph.specs.Part.{Rises}
use Rattle.pair_split.specs.declared.components.Item.{Item}
use Rattle.skeletons.specs.Items.{item_key}
use Rattle.skel_compose.specs.Followers.{IsRow, HasTurns}
use Rattle.skel_compose.proofs.Found.{items-few}
use Rattle.skel_embed.proofs.FirstRows.{if-ok}
use Rattle.skel_embed.proofs.Selected.{key-held, numbers-once, numbers-below, numbers-few, bond-changed}
use Rattle.skel_embed.proofs.selecting.bond_with.Goals as goal

pub items_with-requires-clause-rises : goal.items_with-requires-clause-rises
items_with-requires-clause-rises c = subst (λ (z : List Item). Rises (map item_key z)) (sym c.items.ensures) (c.requires.block.1.tree.in_order.keys_rise c.args.k c.requires.node.0)

pub items_with-requires-clause-few : goal.items_with-requires-clause-few
items_with-requires-clause-few c = subst (λ (z : List Item). length z ≤ max_edges) (sym c.items.ensures) (items-few c.requires.block.0 c.args.tree.now c.requires.block.1 c.args.k c.requires.node.0 c.requires.block.2)

pub items_with-requires-clause-held : goal.items_with-requires-clause-held
items_with-requires-clause-held c = λ key m. subst (λ (z : List Item). is_member key (map item_key z) ≡ true) (sym c.items.ensures)
    (key-held c.requires.block.0 c.args.tree.now c.requires.block.1 c.args.k c.requires.node.0 c.requires.node.1 c.args.keys.now c.requires.possible.0 c.requires.possible.1 key m)

-- the items around the lesser pole
pub bond_row-requires-clause-once : goal.bond_row-requires-clause-once
bond_row-requires-clause-once c =
    let is = c.deref.ensures.value ∙ c.in_ok-items.ensures {u = tt} ∙ ap (λ (z : List Item). map (place_of (map item_key z)) c.args.keys.now) c.items.ensures in
    numbers-once c.requires.block.0 c.args.tree.now c.requires.block.1 c.args.k c.requires.node.0 c.requires.node.1 c.args.keys.now c.requires.possible.0 c.requires.possible.1 c.deref.result.now is

pub bond_row-requires-clause-below : goal.bond_row-requires-clause-below
bond_row-requires-clause-below c =
    let is = c.deref.ensures.value ∙ c.in_ok-items.ensures {u = tt} ∙ ap (λ (z : List Item). map (place_of (map item_key z)) c.args.keys.now) c.items.ensures in
    numbers-below c.requires.block.0 c.args.tree.now c.requires.block.1 c.args.k c.requires.node.0 c.requires.node.1 c.args.keys.now c.requires.possible.0 c.requires.possible.1 c.deref.result.now is

pub bond_row-requires-clause-few : goal.bond_row-requires-clause-few
bond_row-requires-clause-few c =
    let is = c.deref.ensures.value ∙ c.in_ok-items.ensures {u = tt} ∙ ap (λ (z : List Item). map (place_of (map item_key z)) c.args.keys.now) c.items.ensures in
    numbers-few c.requires.block.0 c.args.tree.now c.requires.block.1 c.args.k c.requires.node.0 c.requires.node.1 c.args.keys.now c.requires.possible.0 c.requires.possible.1 c.deref.result.now is (items-few c.requires.block.0 c.args.tree.now c.requires.block.1 c.args.k c.requires.node.0 c.requires.block.2)

pub returns : goal.returns
returns c = λ s h.
    let nodes = c.args.tree.now in
    let row = c.bond_row.new.row.items in
    let is = c.deref.ensures.value ∙ c.in_ok-items.ensures {u = tt} ∙ ap (λ (z : List Item). map (place_of (map item_key z)) c.args.keys.now) c.items.ensures in
    if-ok c.bond_row.result (HasTurns c.deref.result.now row) (IsRow nodes c.args.k s row)
    (bond-changed c.requires.block.0 nodes c.requires.block.1 c.args.k c.requires.node.0 c.requires.node.1 c.args.keys.now s h c.deref.result.now is row) c.bond_row.ensures
