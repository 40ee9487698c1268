use Rattle.std.proofs.Common.{◌≡◌, List, length, ap, ◌∙◌, subst, rules, arith}
use Rattle.pair_split.specs.declared.components.Item.{Item}
use Rattle.pair_split.specs.declared.components.What.TheVariants.{Link}
use Rattle.skeletons.specs.Items.{nth_item}
use Rattle.face_weights.specs.Rests.{IsRest}
use Rattle.face_weights.specs.Sums.{weight_in}
use Rattle.face_weights.proofs.NodeCode.{items-once}
use Rattle.face_weights.proofs.weighing.rest_at_parent.Goals as goal

-- no other item is the link
pub returns-then-eq : goal.returns-then-eq
returns-then-eq c = λ family know h l e.
    let items = c.items-items.result.now in
    let w : (nth_item c.items-items.result.now c.loop-h.h).what ≡ Link c.args.parent = search rules in
    let same : c.loop-h.h ≡ h = items-once c.requires.block.0 c.args.tree.now c.requires.block.1 c.args.k c.requires.node items c.items-items.ensures c.loop-h.h h c.args.parent (omega (arith, c.loop-h-test.true)) (omega (arith, l, ap length c.items-items.ensures))
    w (ap (λ (z : List Item). (nth_item z h).what) c.items-items.ensures ∙ e) in
    subst (λ z. IsRest c.args.tree.now family c.args.k (weight_in c.args.weights.now) z c.rest_at.result) same (c.rest_at.ensures family know)
