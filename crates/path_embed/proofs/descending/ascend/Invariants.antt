use Rattle.std.proofs.Common.{vec_len}
use Rattle.multigraph.specs.Graph.{Multigraph}
use Rattle.kuratowski.specs.Subdivision.{IsWritten}
use Rattle.path_embed.specs.Chain.{IsChain}
use Rattle.path_embed.proofs.descending.ascend.Given as goal

abbrev pub invariant-up : goal.invariant-up
invariant-up l = (h : Multigraph) × IsChain l.g l.levels.items h × IsWritten h l.known.kind l.known.branch l.known.paths

abbrev pub decreases-up : goal.decreases-up
decreases-up l = vec_len l.levels
