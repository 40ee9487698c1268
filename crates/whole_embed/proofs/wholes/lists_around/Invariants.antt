use Rattle.std.proofs.Common.{◌≡◌, map, take}
use Rattle.whole_embed.specs.Cuts.{blocks_in}
use Rattle.whole_embed.specs.Whole.{whole_lists}
use Rattle.whole_embed.proofs.wholes.lists_around.Given as goal

abbrev pub invariant-loop-i : goal.invariant-loop-i
invariant-loop-i l = l.whole ≡ take l.i (whole_lists l.frame (blocks_in l.all) (map (λ x. x.items) l.lists))
