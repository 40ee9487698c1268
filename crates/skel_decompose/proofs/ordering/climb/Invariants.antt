use Rattle.faces.specs.Search.{unmarked_count}
use Rattle.skel_decompose.specs.Ways.{IsClimbing}
use Rattle.skel_decompose.proofs.ordering.climb.Given as goal

abbrev pub invariant-loop-x : goal.invariant-loop-x
invariant-loop-x l = IsClimbing l.parents l.k l.initial.placed l.placed l.way.items l.x

abbrev pub decreases-loop-x : goal.decreases-loop-x
decreases-loop-x l = unmarked_count l.placed
