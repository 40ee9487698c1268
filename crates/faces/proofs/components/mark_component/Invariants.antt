-- The search so far. Each turn takes a vertex from the stack, and each vertex comes there once.
use Rattle.std.proofs.Common.{◌+◌, length}
use Rattle.faces.specs.Search.{unmarked_count}
use Rattle.faces.proofs.Searched.{Searched}
use Rattle.faces.proofs.components.mark_component.Given as goal

abbrev pub invariant-loop-vertex : goal.invariant-loop-vertex
invariant-loop-vertex l = Searched l.graph l.fn.marks l.marks l.stack.items l.start

abbrev pub decreases-loop-vertex : goal.decreases-loop-vertex
decreases-loop-vertex l = unmarked_count l.marks + length l.stack.items
