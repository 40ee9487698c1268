use Rattle.skel_decompose.proofs.Ways.{AreListed}
use Rattle.skel_decompose.proofs.ordering.order_by.Given as goal

abbrev pub invariant-loop-k : goal.invariant-loop-k
invariant-loop-k l = AreListed l.parents l.placed.items l.nodes.items l.k
