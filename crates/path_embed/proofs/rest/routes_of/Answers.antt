use Rattle.std.proofs.Common.{sym, subst}
use Rattle.multigraph.specs.Graph.{Multigraph}
use Rattle.skeletons.specs.Items.{IsBlockTree}
use Rattle.path_embed.proofs.rest.routes_of.Goals as goal

pub item_routes-requires-clause-node : goal.item_routes-requires-clause-node
item_routes-requires-clause-node c = c.requires.obstacle.node.node.0

pub item_routes-requires-clause-block : goal.item_routes-requires-clause-block
item_routes-requires-clause-block c = subst (λ (z : Multigraph). IsBlockTree z c.args.found.now.obstacle.tree) (sym c.graph.ensures.value) c.requires.obstacle.tree
