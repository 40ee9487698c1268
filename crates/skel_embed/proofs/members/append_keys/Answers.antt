use Rattle.std.proofs.Common.{◌∙◌, ◌∷◌, ◌++◌, ℕ, List, [], append_assoc, append-nil, map, take, sym, ap, arith}
use Rattle.std.proofs.lemmas.List.{map-append, take_all, take_more}
use Rattle.pair_split.specs.declared.components.Item.{Item}
use Rattle.skeletons.specs.Items.{item_key}
use Rattle.skeletons.proofs.NodeItems.{no_item, nth_item}
use Rattle.skel_embed.proofs.members.append_keys.Goals as goal

pub loop-i-init : goal.loop-i-init
loop-i-init c = sym (append-nil c.args.keys.now.items)

pub loop-i-preserved : goal.loop-i-preserved
loop-i-preserved c =
    let items = c.args.items.now in
    let i = c.loop-i.i in
    let before = c.args.keys.now.items in
    c.in_ok-push.ensures.items ∙ ap (λ (z : List ℕ). z ++ (nth_item items i).key ∷ []) c.loop-i.invariant ∙ append_assoc before (map item_key (take i items)) ((nth_item items i).key ∷ [])
    ∙ ap (λ (z : List ℕ). before ++ z) (sym (ap (map item_key) (take_more items i no_item c.loop-i-test.true) ∙ map-append item_key (take i items) (nth_item items i ∷ [])))

pub returns : goal.returns
returns c = c.loop-i.invariant ∙ ap (λ (z : List Item). c.args.keys.now.items ++ map item_key z) (take_all c.loop-i.i c.args.items.now (omega (arith, c.loop-i-test.false)))
