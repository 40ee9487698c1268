-- The lists of the vertices so far.
use Rattle.path_rotation.specs.Finish.{AreListed}
use Rattle.path_rotation.proofs.finishing.lists_of.Given as goal

abbrev pub invariant-loop-v : goal.invariant-loop-v
invariant-loop-v l = AreListed l.fn.g l.fn.next l.v l.lists
