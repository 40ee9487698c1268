use Rattle.std.proofs.Common.{◌≡◌, map, take}
use Rattle.skeletons.specs.Items.{item_key}
use Rattle.embed_enum.proofs.leading.keys_of.Given as goal

abbrev pub invariant-loop-item : goal.invariant-loop-item
invariant-loop-item l = l.keys.items ≡ map item_key (take l.item-index l.items)
