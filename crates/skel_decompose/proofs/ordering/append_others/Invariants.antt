use Rattle.std.proofs.Common.{◌≡◌, ◌++◌, drop}
use Rattle.skel_decompose.specs.Ways.{others_of}
use Rattle.skel_decompose.proofs.ordering.append_others.Given as goal

abbrev pub invariant-loop-k : goal.invariant-loop-k
invariant-loop-k l = (l.list.items ++ others_of l.placed (drop l.k-index l.nodes)) ≡ (l.initial.list.items ++ others_of l.placed l.nodes)
