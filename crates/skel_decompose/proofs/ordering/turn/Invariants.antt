use Rattle.std.proofs.Common.{◌≡◌, drop}
use Rattle.spqr_tree.specs.Absent.{absent}
use Rattle.skel_decompose.specs.Ways.{turned}
use Rattle.skel_decompose.proofs.ordering.turn.Given as goal

abbrev pub invariant-loop-x : goal.invariant-loop-x
invariant-loop-x l = turned l.parents l.below (drop l.x-index l.way) ≡ turned l.initial.parents absent l.way
