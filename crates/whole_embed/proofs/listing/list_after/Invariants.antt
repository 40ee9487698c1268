use Rattle.whole_embed.proofs.Following.{IsWalked}
use Rattle.whole_embed.proofs.listing.list_after.Given as goal

abbrev pub invariant-loop-turn : goal.invariant-loop-turn
invariant-loop-turn l = IsWalked l.cuts l.all l.walker l.blocks.items l._turn l.found.items
