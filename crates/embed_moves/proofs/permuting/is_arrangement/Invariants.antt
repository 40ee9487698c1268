use Rattle.std.proofs.Common.{◌≡◌, ℕ, true, map, take}
use Rattle.permutations.specs.Members.{is_member}
use Rattle.skeletons.specs.Items.{item_key}
use Rattle.embed_moves.proofs.permuting.is_arrangement.Given as goal

abbrev pub invariant-loop-item : goal.invariant-loop-item
invariant-loop-item l = (x : ℕ) → is_member x (map item_key (take l.item-index l.items)) ≡ true → is_member x l.keys ≡ true
