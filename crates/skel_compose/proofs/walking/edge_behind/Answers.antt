use Rattle.std.proofs.Common.{◌∙◌, ℕ, List, sym, ap, subst, arith}
use Rattle.permutations.specs.Cyclic.{successor}
use Rattle.rotations.specs.Rotation.{order_at}
use Rattle.pair_split.specs.declared.components.Item.{Item}
use Rattle.skeletons.proofs.NodeItems.{nth_item}
use Rattle.skeletons.proofs.Places.{family-followed}
use Rattle.skel_compose.proofs.Found.{home-is}
use Rattle.skel_compose.proofs.Walk.{LeadsOn, IsNear, starts, arrives, goes-on, near-start, near-next}
use Rattle.skel_compose.proofs.walking.edge_behind.Goals as goal

pub item_behind-behind-requires-clause-end : goal.item_behind-behind-requires-clause-end
item_behind-behind-requires-clause-end c =
    let q = c.requires.family in
    let w = family-followed c.args.g.now c.args.tree.now q.0 c.requires.block q.1.systems in
    let on = (c.loop-links.invariant q.0 q.1 w.0 w.1 w.2).0 in
    record { is_node = on.is_node; is_item = on.is_item; end = on.end }

-- the walk starts at the home of the edge
pub loop-links-init : goal.loop-links-init
loop-links-init c = λ family t r s f.
    let h = home-is c.args.g.now c.args.tree.now c.requires.block.tree c.args.homes.now c.args.e c.requires.homes c.requires.edge in
    subst (λ (z : ℕ × ℕ). LeadsOn c.args.tree.now family c.args.v c.args.e (successor (order_at r c.args.v) c.args.e) z.0 z.1 × IsNear c.args.tree.now (successor (order_at r c.args.v) c.args.e) z.0 0) (sym h.4)
    (starts c.args.g.now c.args.tree.now c.requires.block family t.systems r s f c.args.v c.args.e c.requires.edge c.requires.end h.0 h.1 h.2 h.3.is_item h.3.is_edge, near-start c.args.g.now c.args.tree.now c.requires.block family t.systems r s f c.args.v c.args.e c.requires.edge c.requires.end h.0 h.2)

-- it ends at an edge
pub returns-in-Real : goal.returns-in-Real
returns-in-Real c = λ family t r s f. arrives c.args.g.now c.args.tree.now c.requires.block family t.systems r s f c.args.v c.args.e c.requires.edge c.requires.end c.loop-links.k c.loop-links.i c.item_behind-behind.result (c.loop-links.invariant family t r s f).0 c.item_behind-behind.ensures.item (c.item_behind-behind.ensures.key family t) c.in-Real.f
    (sym (ap (λ (z : List Item). (nth_item z c.item_behind-behind.result).what) c.items.ensures) ∙ c.in-Real.is)

-- and goes on at a link
pub loop-links-preserved : goal.loop-links-preserved
loop-links-preserved c = λ family t r s f. (
  goes-on c.args.g.now c.args.tree.now c.requires.block family t.systems r s f c.args.v c.args.e c.requires.edge c.requires.end c.loop-links.k c.loop-links.i c.item_behind-behind.result (c.loop-links.invariant family t r s f).0 c.item_behind-behind.ensures.item (c.item_behind-behind.ensures.key family t) c.in-Link.j c.link_back-i.result c.item_behind-behind.ensures.end
      (sym (ap (λ (z : List Item). (nth_item z c.item_behind-behind.result).what) c.items.ensures) ∙ c.in-Link.is) c.link_back-i.ensures.item c.link_back-i.ensures.link,
  near-next c.args.g.now c.args.tree.now c.requires.block family t.systems r s f c.args.v c.args.e c.requires.edge c.requires.end c.loop-links.k c.loop-links.i c.item_behind-behind.result (c.loop-links.invariant family t r s f).0 c.item_behind-behind.ensures.item (c.item_behind-behind.ensures.key family t) c.in-Link.j c.link_back-i.result c.item_behind-behind.ensures.end
      (sym (ap (λ (z : List Item). (nth_item z c.item_behind-behind.result).what) c.items.ensures) ∙ c.in-Link.is) c.link_back-i.ensures.item c.link_back-i.ensures.link c.loop-links._links (c.loop-links.invariant family t r s f).1,
)

-- before the links end
pub unreachable-requires : goal.unreachable-requires
unreachable-requires c =
    let q = c.requires.family in
    let w = family-followed c.args.g.now c.args.tree.now q.0 c.requires.block q.1.systems in
    omega (arith, (c.loop-links.invariant q.0 q.1 w.0 w.1 w.2).1.more, c.loop-links-test.false, c.node_count-links-end.ensures)
