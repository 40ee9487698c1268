-- There are few items, and the paths through their groups are routes of the skeleton.
use Rattle.std.proofs.lemmas.Result.{IfOk-weaker}
use Rattle.block_obstruct.proofs.ItemRoutes.{items-few, item-routes}
use Rattle.block_obstruct.proofs.obstructing.item_routes.Goals as goal

pub groups-requires-clause-few : goal.groups-requires-clause-few
groups-requires-clause-few c = items-few c.args.g.now c.args.tree.now c.requires.block c.args.k c.requires.node c.edge_count.ensures.limits

pub returns-clause-routes : goal.returns-clause-routes
returns-clause-routes c = IfOk-weaker c.routes_through.result _ _ (λ routes r. item-routes c.args.g.now c.args.tree.now c.requires.block c.args.k c.requires.node routes.items r) c.routes_through.ensures
