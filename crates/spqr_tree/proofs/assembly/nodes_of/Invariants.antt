use Rattle.spqr_tree.proofs.NodesMade.{AreMade}
use Rattle.spqr_tree.proofs.assembly.nodes_of.Given as goal

abbrev pub invariant-loop-k : goal.invariant-loop-k
invariant-loop-k l = AreMade l.comps l.ranks l.parents l.least l.nodes l.k
