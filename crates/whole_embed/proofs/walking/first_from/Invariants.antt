use Rattle.std.proofs.Common.{◌≡◌}
use Rattle.whole_embed.specs.Cuts.{blocks_in}
use Rattle.whole_embed.specs.Walk.{AreFirstLists}
use Rattle.whole_embed.proofs.walking.first_from.Given as goal

abbrev pub invariant-loop-i : goal.invariant-loop-i
invariant-loop-i l = record {
  component : l.cuts.component ≡ l.initial.cuts.component;
  lists : AreFirstLists l.initial.cuts.component (blocks_in l.all) l.initial.cuts.lists l.cuts.lists l.from l.i;
}
