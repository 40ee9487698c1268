use Rattle.std.proofs.Common.{◌≡◌, ◌∙◌, ◌++◌, ◌∷◌, ℕ, List, [], IfOk, map, take, slice_index_or, sym, ap, subst, arith}
use Rattle.std.proofs.lemmas.List.{map-append, take_all, take_more}
use Rattle.pair_split.specs.Tutte.{Node, node_at}
use Rattle.pair_split.specs.declared.components.Item.{Item}
use Rattle.pair_split.specs.declared.components.What.TheVariants.{Real}
use Rattle.skeletons.specs.Items.{item_key, node_keys}
use Rattle.embed_enum.proofs.leading.keys_of.Goals as goal

pub loop-item-init : goal.loop-item-init
loop-item-init c = c.in_ok-keys.ensures.items

pub loop-item-preserved : goal.loop-item-preserved
loop-item-preserved c =
    let items = c.items-items.result.now in
    let i = c.loop-item.item-index in
    let none : Item = record { key = 0; a = 0; b = 0; what = Real 0 } in
    c.in_ok-push.ensures.items ∙ ap (λ (z : List ℕ). z ++ (slice_index_or items i none).key ∷ []) c.loop-item.invariant
    ∙ sym (ap (map item_key) (take_more items i none c.loop-item-test.true) ∙ map-append item_key (take i items) (slice_index_or items i none ∷ []))

pub returns : goal.returns
returns c =
    let items = c.items-items.result.now in
    let own : items ≡ (node_at c.args.p.now.tree c.args.k).items = c.items-items.ensures ∙ ap (λ (t : List Node). (node_at t c.args.k).items) c.tree.ensures.value in
    let e : c.deref.result.now ≡ node_keys c.args.p.now.tree c.args.k = c.deref.ensures.value ∙ c.loop-item.invariant ∙ ap (map item_key) (take_all c.loop-item.item-index items (omega (arith, c.loop-item-test.false)) ∙ own) in
    subst (λ (z : List ℕ). IfOk c.of.result (λ keys. keys ≡ z)) e c.of.ensures
