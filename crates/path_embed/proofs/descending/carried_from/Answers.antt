use Rattle.std.proofs.Common.{sym, subst}
use Rattle.multigraph.specs.Graph.{Multigraph}
use Rattle.skeletons.specs.Items.{IsBlockTree}
use Rattle.kuratowski.specs.Subdivision.{IsWritten}
use Rattle.path_embed.proofs.descending.carried_from.Goals as goal

pub obstruct_block-requires-clause-node : goal.obstruct_block-requires-clause-node
obstruct_block-requires-clause-node c = c.requires.obstacle.node.node.0

pub obstruct_block-requires-clause-block : goal.obstruct_block-requires-clause-block
obstruct_block-requires-clause-block c = subst (λ (z : Multigraph). IsBlockTree z c.args.o.now.tree) (sym c.graph.ensures.value) c.requires.obstacle.tree

pub obstruct_block-requires-clause-skeleton : goal.obstruct_block-requires-clause-skeleton
obstruct_block-requires-clause-skeleton c = c.requires.obstacle.node.skeleton_is

pub carried-requires-clause-part : goal.carried-requires-clause-part
carried-requires-clause-part c = c.requires.obstacle.block

pub carried-requires-clause-written : goal.carried-requires-clause-written
carried-requires-clause-written c = subst (λ (z : Multigraph). IsWritten z c.in_ok-inner.inner.kind c.in_ok-inner.inner.branch c.in_ok-inner.inner.paths) c.graph.ensures.value c.in_ok-inner.ensures.written
