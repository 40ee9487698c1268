use Rattle.std.proofs.Common.{arith}
use Rattle.search_forest.proofs.Orders.{order-each}
use Rattle.search_forest.proofs.low_points.Low.of.Goals as goal

pub returns-clause-cost : goal.returns-clause-cost
returns-clause-cost g c =
    omega (arith, c.hand_up.ensures.cost, c.take_edges.ensures.cost, c.own.ensures.cost, order-each c.args.graph.now c.args.search.now c.requires.over)

pub returns-clause-least : goal.returns-clause-least
returns-clause-least g c =
    omega (arith, c.hand_up.ensures.cost, c.take_edges.ensures.cost, c.own.ensures.cost)
