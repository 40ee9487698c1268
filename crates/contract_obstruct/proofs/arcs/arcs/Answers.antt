use Rattle.permutations.proofs.Arrangements.{member-at}
use Rattle.contract_obstruct.proofs.arcs.arcs.Goals as goal

pub dart_from-requires : goal.dart_from-requires
dart_from-requires c = c.requires.edges_in _ (member-at c.args.edges.now c.loop-edge.edge-index 0 c.loop-edge-test.true)
