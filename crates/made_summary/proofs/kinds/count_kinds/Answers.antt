use Rattle.std.proofs.Common.{arith}
use Rattle.permutations.proofs.Count.{count-within}
use Rattle.pair_split.specs.Tutte.{node_at}
use Rattle.pair_split.specs.Kinds.{is_polygon, is_bond, is_rigid}
use Rattle.made_summary.proofs.kinds.count_kinds.Goals as goal

pub overflow_add-polygons : goal.overflow_add-polygons
overflow_add-polygons c = omega (arith, count-within c.loop-k.k (λ j. is_polygon (node_at c.args.tree.now j).kind), c.loop-k.invariant.0, c.loop-k-test.true, c.node_count-k-end.type_inv)

pub overflow_add-bonds : goal.overflow_add-bonds
overflow_add-bonds c = omega (arith, count-within c.loop-k.k (λ j. is_bond (node_at c.args.tree.now j).kind), c.loop-k.invariant.1, c.loop-k-test.true, c.node_count-k-end.type_inv)

pub overflow_add-rigid : goal.overflow_add-rigid
overflow_add-rigid c = omega (arith, count-within c.loop-k.k (λ j. is_rigid (node_at c.args.tree.now j).kind), c.loop-k.invariant.2, c.loop-k-test.true, c.node_count-k-end.type_inv)
