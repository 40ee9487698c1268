use Rattle.std.proofs.Common.{take}
use Rattle.skel_embed.specs.Flat.{AreFlat}
use Rattle.skel_embed.specs.Outcomes.{choices_in}
use Rattle.skel_embed.proofs.choosing.choices_in.Given as goal

abbrev pub invariant-loop-k : goal.invariant-loop-k
invariant-loop-k l = AreFlat (take l.k (choices_in l.tree l.members)) l.keys.items l.ends.items
