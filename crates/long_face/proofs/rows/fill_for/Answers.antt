use Rattle.long_face.proofs.rows.fill_for.Goals as goal

pub of_node-requires-clause-block : goal.of_node-requires-clause-block
of_node-requires-clause-block c = let y = c.requires.known in (y.0, y.2.block, y.2.limits)

pub of_node-requires-clause-sized : goal.of_node-requires-clause-sized
of_node-requires-clause-sized c = let y = c.requires.known in y.2.weighed.sized
