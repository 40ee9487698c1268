use Rattle.std.proofs.Common.{◌≡◌, length}
use Rattle.whole_embed.specs.Component.{component_of}
use Rattle.whole_embed.specs.Cuts.{blocks_in}
use Rattle.whole_embed.specs.Keeping.{AreFirstTo}
use Rattle.whole_embed.proofs.cuts.Cuts.first.Given as goal

abbrev pub invariant-loop-i : goal.invariant-loop-i
invariant-loop-i l = (l.cuts.component ≡ component_of l.graph l.blocks l.c) × (length l.cuts.lists ≡ length l.cuts.component.cuts) × AreFirstTo l.cuts.component (blocks_in l.all) l.cuts.lists l.i
