use Rattle.whole_embed.specs.Advanced.{AreFirstBetween}
use Rattle.whole_embed.proofs.advancing.reset_from.Given as goal

abbrev pub invariant-loop-j : goal.invariant-loop-j
invariant-loop-j l = AreFirstBetween l.blocks l.initial.all l.all l.from l.j
