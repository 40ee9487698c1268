use Rattle.std.proofs.Common.{◌≡◌, ◌<◌, ◌++◌, length}
use Rattle.permutations.specs.Ring.{turns}
use Rattle.rotations.proofs.round.walk_ring.Given as goal

-- the edges so far, and then those from the present dart on
abbrev pub invariant-loop-left : goal.invariant-loop-left
invariant-loop-left l = record {
  edges : l.round.items ++ turns l.next l.dart l.left ≡ turns l.next l.fn.ring.first l.fn.ring.degree;
  within : 0 < l.left → l.dart < length l.next;
}

abbrev pub decreases-loop-left : goal.decreases-loop-left
decreases-loop-left l = l.left
