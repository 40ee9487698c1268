use Rattle.std.proofs.Common.{ℕ, List}
use Rattle.contract_obstruct.specs.Steps.{AreSteps}
use Rattle.contract_embed.specs.Entries.{AreOrdersBelow}
use Rattle.contract_embed.proofs.rounds.rounds.Given as goal

abbrev pub invariant-loop-v : goal.invariant-loop-v
invariant-loop-v l = (s : List (List ℕ)) → AreSteps l.g s l.next → AreOrdersBelow s l.v l.lists
