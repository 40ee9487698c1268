use Rattle.std.proofs.Common.{◌≡◌, map, take}
use Rattle.skeletons.specs.Items.{item_key}
use Rattle.spqr_session.proofs.commands.permute.are_keys.Given as goal

abbrev pub invariant-loop-i : goal.invariant-loop-i
invariant-loop-i l = take l.i (map item_key l.items) ≡ take l.i l.keys
