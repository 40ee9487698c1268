-- None of the edges so far is a later one with the same ends.
use Rattle.grid_drawing.proofs.SameEnds.{NoneAmong}
use Rattle.grid_drawing.proofs.parallel.later_parallel.Given as goal

abbrev pub invariant-loop-b : goal.invariant-loop-b
invariant-loop-b l = NoneAmong l.fn.g l.near l.fn.a l.b-index
