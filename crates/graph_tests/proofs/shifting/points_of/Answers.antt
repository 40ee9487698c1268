use Rattle.graph_tests.proofs.Peeled.{some-dart}
use Rattle.graph_tests.proofs.shifting.points_of.Goals as goal

pub tail-requires : goal.tail-requires
tail-requires c = some-dart c.args.map.now c.in_ok-order.order.items c.requires (c.in_ok-order.ensures {u = tt})

pub head-requires : goal.head-requires
head-requires c = some-dart c.args.map.now c.in_ok-order.order.items c.requires (c.in_ok-order.ensures {u = tt})
