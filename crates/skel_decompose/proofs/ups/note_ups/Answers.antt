use Rattle.std.proofs.Common.{◌≡◌, ◌+◌, ◌<◌, ◌-◌, List, length, slice_set, sym, ap, ◌∙◌, subst, arith}
use Rattle.pair_split.specs.Tutte.{node_at, node_item}
use Rattle.pair_split.specs.declared.components.Item.{Item}
use Rattle.pair_split.specs.declared.components.What.TheVariants.{Link}
use Rattle.skeletons.proofs.NodeItems.{nth_item}
use Rattle.skel_compose.proofs.Found.{items-few}
use Rattle.spqr_tree.proofs.UpLinks.{link-to, link-within}
use Rattle.skel_decompose.specs.Ups.{HaveUps, up_link}
use Rattle.skel_decompose.proofs.UpLists.{ups-put, ups-pass, ups-next}
use Rattle.skel_decompose.proofs.ups.note_ups.Goals.{in-Link, in_default}
use Rattle.skel_decompose.proofs.ups.note_ups.Goals as goal

pub overflow_cast-i-end : goal.overflow_cast-i-end
overflow_cast-i-end c = omega (arith, ap length c.items-items.ensures, items-few c.requires.block.0 c.args.tree.now c.requires.block.1 c.args.k c.requires.node c.requires.block.2)

pub bounds-ups-x : goal.bounds-ups-x
bounds-ups-x c =
    let b = c.requires.block in
    let nodes = c.args.tree.now in
    let l : c.loop-i.i < length (node_at nodes c.args.k).items = subst (λ (z : List Item). c.loop-i.i < length z) c.items-items.ensures (omega (arith, c.loop-i-test.true)) in
    let w : (node_item nodes c.args.k c.loop-i.i).what ≡ Link c.in-Link.x = sym (ap (λ (z : List Item). (nth_item z c.loop-i.i).what) c.items-items.ensures) ∙ c.in-Link.is in
    subst (λ z. c.in-Link.x < z) (sym c.loop-i.invariant.1.each) (link-within b.0 nodes b.1.tree b.1.block.has_edge c.args.k c.in-Link.x (link-to b.0 nodes b.1.tree b.1.block.has_edge c.args.k c.loop-i.i c.in-Link.x l w))

-- one item more
pub loop-i-preserved : goal.loop-i-preserved
loop-i-preserved c =
    let b = c.requires.block in
    let nodes = c.args.tree.now in
    let k = c.args.k in
    let i = c.loop-i.i in
    let h = i - 1 in
    let s : h + 1 ≡ i = omega (arith, c.loop-i.invariant.0) in (
      omega (arith, c.loop-i.invariant.0),
      elim c.match-items-i.branch [
        | in-Link w ↦
            let l : i < length (node_at nodes k).items = subst (λ (z : List Item). i < length z) c.items-items.ensures (omega (arith, c.loop-i-test.true)) in
            let is : (node_item nodes k i).what ≡ Link w.in-Link.x = sym (ap (λ (z : List Item). (nth_item z i).what) c.items-items.ensures) ∙ w.in-Link.is in
            let one : HaveUps nodes k (i + 1) (slice_set c.loop-i.ups w.in-Link.x (up_link nodes k i)) = subst (λ z. HaveUps nodes k (z + 1) (slice_set c.loop-i.ups w.in-Link.x (up_link nodes k z))) s
            (ups-put b.0 nodes b.1 k h w.in-Link.x c.loop-i.ups (subst (λ z. HaveUps nodes k z c.loop-i.ups) (sym s) c.loop-i.invariant.1) (omega (arith, l, s)) (subst (λ z. (node_item nodes k z).what ≡ Link w.in-Link.x) (sym s) is)) in
            subst (HaveUps nodes k (i + 1)) (sym (w.ups-is ∙ ap (λ (z : List Item). slice_set c.loop-i.ups w.in-Link.x (record { node = k; item = i; lesser = (nth_item z i).a })) c.items-items.ensures)) one
        | in_default w ↦ subst (HaveUps nodes k (i + 1)) (sym w.ups-is) (subst (λ z. HaveUps nodes k (z + 1) c.loop-i.ups) s
            (ups-pass nodes k h c.loop-i.ups (subst (λ z. HaveUps nodes k z c.loop-i.ups) (sym s) c.loop-i.invariant.1)
            (λ x y. w.in_default.not-Link x (ap (λ (z : List Item). (nth_item z i).what) c.items-items.ensures ∙ subst (λ z. (node_item nodes k z).what ≡ Link x) s y))))
      ],
    )

pub returns : goal.returns
returns c = ups-next c.args.tree.now c.args.k c.loop-i.i c.loop-i.ups c.loop-i.invariant.1 (omega (arith, ap length c.items-items.ensures, c.loop-i-test.false))
