use Rattle.graph_theory.specs.Triconnected.{IsTriconnected}
use Rattle.contract_embed.specs.Chain.{IsChain}
use Rattle.contract_embed.proofs.descending.descend.Given as goal

abbrev pub invariant-down : goal.invariant-down
invariant-down l = IsChain l.g l.levels.items l.bottom × IsTriconnected l.bottom

abbrev pub decreases-down : goal.decreases-down
decreases-down l = l.bottom.vertex_count
