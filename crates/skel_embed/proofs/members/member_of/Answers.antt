use Rattle.std.proofs.Common.{◌∙◌, ◌++◌, List, map, refl, sym, ap}
use Rattle.pair_split.specs.declared.components.Item.{Item}
use Rattle.skeletons.specs.Items.{item_key}
use Rattle.skel_embed.proofs.FirstRows.{first-polygon, first-small, first-bond}
use Rattle.skel_embed.proofs.members.member_of.Goals as goal

pub returns-in_ok-polygon_first-in-S : goal.returns-in_ok-polygon_first-in-S
returns-in_ok-polygon_first-in-S c c' =
    let keys = c'.args.keys.now.items in
    first-polygon c'.args.g.now c'.args.tree.now c'.requires.block c'.args.k c'.requires.node c'.polygon_first.new.row.items keys keys (c'.in_ok-polygon_first-in-S.ensures {u = tt}) refl (sym c'.kind.ensures ∙ c'.in-S.is)

pub returns-in_ok-append_keys-in-P : goal.returns-in_ok-append_keys-in-P
returns-in_ok-append_keys-in-P c c' =
    let keys = c'.args.keys.now.items in
    first-bond c'.args.g.now c'.args.tree.now c'.requires.block c'.args.k c'.requires.node c'.bond_first.new.row.items keys c'.append_keys.new.keys.items (sym c'.kind.ensures ∙ c'.in-P.is) (c'.in_ok-bond_first-in-P.ensures {u = tt})
    (c'.in_ok-append_keys-in-P.ensures {u = tt} ∙ ap (λ (z : List Item). keys ++ map item_key z) c'.items.ensures)

pub returns-in_ok-bond_first-in-B : goal.returns-in_ok-bond_first-in-B
returns-in_ok-bond_first-in-B c c' =
    let keys = c'.args.keys.now.items in
    first-small c'.args.g.now c'.args.tree.now c'.requires.block c'.args.k c'.requires.node c'.bond_first-in-B.new.row.items keys keys (c'.in_ok-bond_first-in-B.ensures {u = tt}) refl (sym c'.kind.ensures ∙ c'.in-B.is)
