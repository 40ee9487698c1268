-- What the vertices passed so far are connected to is marked, and those that lead their components are counted.
use Rattle.permutations.specs.Relation.{connected}
use Rattle.faces.proofs.Found.{FoundBelow}
use Rattle.faces.proofs.components.count_starts.Given as goal

abbrev pub invariant-loop-start : goal.invariant-loop-start
invariant-loop-start l = FoundBelow (connected l.graph.ends) l.start l.marks l.components
