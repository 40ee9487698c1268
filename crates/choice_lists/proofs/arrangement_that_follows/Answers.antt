use Rattle.choice_lists.proofs.Laws.{next-arrangement, next-rearranges, falls-or_next, falling-none}
use Rattle.choice_lists.proofs.arrangement_that_follows.Goals as goal

pub returns : goal.returns
returns c = record { follows = next-arrangement; rearranges = next-rearranges; some = falls-or_next; none = falling-none }
