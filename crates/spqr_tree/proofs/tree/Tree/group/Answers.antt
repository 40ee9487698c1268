use Rattle.std.proofs.Common.{◌≡◌, List, ap, ◌∙◌}
use Rattle.pair_split.specs.declared.components.Item.{Item}
use Rattle.spqr_tree.specs.Keys.{nth_item}
use Rattle.spqr_tree.proofs.tree.Tree.group.Goals as goal

-- the key is that of the item
pub returns : goal.returns
returns c = ap (λ (z : List Item). (nth_item z c.item_with.result).key) c.items.ensures ∙ c.item_with.ensures.key
