use Rattle.std.proofs.Common.{◌≡◌, map, take}
use Rattle.permutations.specs.Members.{place_of}
use Rattle.skeletons.specs.Items.{item_key}
use Rattle.skel_embed.proofs.selecting.items_with.Given as goal

abbrev pub invariant-loop-i : goal.invariant-loop-i
invariant-loop-i l = l.numbers.items ≡ map (place_of (map item_key l.items)) (take l.i l.keys)
