use Rattle.std.proofs.Common.{◌≡◌, ◌++◌, map, take}
use Rattle.skeletons.specs.Items.{item_key}
use Rattle.skel_embed.proofs.members.append_keys.Given as goal

abbrev pub invariant-loop-i : goal.invariant-loop-i
invariant-loop-i l = l.keys.items ≡ l.initial.keys.items ++ map item_key (take l.i l.items)
