use Rattle.std.proofs.Common.{◌≡◌, ◌++◌, length, map, take, drop}
use Rattle.skeletons.specs.Items.{item_key}
use Rattle.skel_embed.proofs.kept.write_keys.Given as goal

abbrev pub invariant-loop-i : goal.invariant-loop-i
invariant-loop-i l = (l.keys ≡ map item_key (take l.i l.items) ++ drop l.i l.initial.keys) × (length l.keys ≡ length l.initial.keys)
