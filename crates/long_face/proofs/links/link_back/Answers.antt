use Rattle.std.proofs.Common.{◌≡◌, ◌<◌, ◌∙◌, List, length, map, inl, inr, sym, ap, subst, arith}
use Rattle.multigraph.specs.Part.{Rises}
use Rattle.pair_split.specs.Tutte.{node_item}
use Rattle.pair_split.specs.declared.components.Item.{Item}
use Rattle.skeletons.specs.Items.{item_key}
use Rattle.skeletons.proofs.NodeItems.{nth_item, keys-once}
use Rattle.skel_compose.proofs.Back.{two-items, link-node, back-found}
use Rattle.skel_compose.proofs.Found.{items-few}
use Rattle.long_face.proofs.links.link_back.Goals.{then-i-eq0, else-i-eq0}
use Rattle.long_face.proofs.links.link_back.Goals as goal

pub bounds-items-1 : goal.bounds-items-1
bounds-items-1 c = omega (arith, ap length c.items-items.ensures, two-items c.requires.block.0 c.args.tree.now c.requires.block.1.tree c.args.k c.args.i c.args.j c.requires.node c.requires.item c.requires.link)

pub items-requires : goal.items-requires
items-requires c = link-node c.requires.block.0 c.args.tree.now c.requires.block.1.tree c.args.k c.args.i c.args.j c.requires.item c.requires.link

pub item_with_key-requires-clause-rising : goal.item_with_key-requires-clause-rising
item_with_key-requires-clause-rising c = subst (λ (z : List Item). Rises (map item_key z)) (sym c.items.ensures)
    (c.requires.block.1.tree.in_order.keys_rise c.args.j (link-node c.requires.block.0 c.args.tree.now c.requires.block.1.tree c.args.k c.args.i c.args.j c.requires.item c.requires.link))

pub item_with_key-requires-clause-few : goal.item_with_key-requires-clause-few
item_with_key-requires-clause-few c = omega (
  arith,
  ap length c.items.ensures,
  items-few c.requires.block.0 c.args.tree.now c.requires.block.1 c.args.j
      (link-node c.requires.block.0 c.args.tree.now c.requires.block.1.tree c.args.k c.args.i c.args.j c.requires.item c.requires.link) c.requires.block.2,
)

-- the link back has the key
pub item_with_key-requires-clause-held : goal.item_with_key-requires-clause-held
item_with_key-requires-clause-held c =
    let b = back-found c.requires.block.0 c.args.tree.now c.requires.block.1.tree c.args.k c.args.i c.args.j c.if-i-eq0.key c.items-items.result.now c.requires.node c.requires.item c.requires.link c.items-items.ensures
    (elim c.if-i-eq0.branch [
      | then-i-eq0 w ↦ inl (w.if-i-eq0.true, w.key-is)
      | else-i-eq0 w ↦ inr (w.if-i-eq0.false, w.key-is)
    ]) in
    (b.0, subst (λ (z : List Item). b.0 < length z) (sym c.items.ensures) b.1, ap (λ (z : List Item). (nth_item z b.0).key) c.items.ensures ∙ b.3)

-- so the item found is it
pub returns-clause-link : goal.returns-clause-link
returns-clause-link c =
    let b = back-found c.requires.block.0 c.args.tree.now c.requires.block.1.tree c.args.k c.args.i c.args.j c.if-i-eq0.key c.items-items.result.now c.requires.node c.requires.item c.requires.link c.items-items.ensures
    (elim c.if-i-eq0.branch [
      | then-i-eq0 w ↦ inl (w.if-i-eq0.true, w.key-is)
      | else-i-eq0 w ↦ inr (w.if-i-eq0.false, w.key-is)
    ]) in
    let same : c.item_with_key.result ≡ b.0 = keys-once c.requires.block.0 c.args.tree.now c.requires.block.1.tree c.args.j c.item_with_key.result b.0
    (subst (λ (z : List Item). c.item_with_key.result < length z) c.items.ensures c.item_with_key.ensures.within) b.1
    (sym (ap (λ (z : List Item). (nth_item z c.item_with_key.result).key) c.items.ensures) ∙ c.item_with_key.ensures.key ∙ sym b.3) in
    ap (λ z. (node_item c.args.tree.now c.args.j z).what) same ∙ b.2
