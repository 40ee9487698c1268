use Rattle.std.proofs.Common.{◌∙◌, sym}
use Rattle.path_embed.proofs.Decisions.{not-rigid}
use Rattle.path_embed.proofs.deciding.skeleton_if_nonplanar.Goals as goal

pub nonplanar_skeleton-requires-clause-node : goal.nonplanar_skeleton-requires-clause-node
nonplanar_skeleton-requires-clause-node c = (c.requires.node, sym c.kind.ensures ∙ c.in-R.is)

pub returns-in-S : goal.returns-in-S
returns-in-S c = λ q. absurd (not-rigid c.kind.result c.in-S.is (c.kind.ensures ∙ q))
