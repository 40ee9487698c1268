use Rattle.whole_embed.proofs.Ranks.{AreRanksTo}
use Rattle.whole_embed.proofs.numbering.ranks_of.Given as goal

abbrev pub invariant-loop-number : goal.invariant-loop-number
invariant-loop-number l = AreRanksTo l.list.items l.numbers l.ranks.items l.number-index
