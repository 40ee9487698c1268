use Rattle.std.proofs.Common.{vec_len}
use Rattle.contract_embed.specs.Chain.{IsChain}
use Rattle.contract_embed.specs.Answer.{IsAnswer}
use Rattle.contract_embed.proofs.embedder.ascend.Given as goal

abbrev pub invariant-up : goal.invariant-up
invariant-up l = IsChain l.g l.levels.items l.below × IsAnswer l.below l.known

abbrev pub decreases-up : goal.decreases-up
decreases-up l = vec_len l.levels
