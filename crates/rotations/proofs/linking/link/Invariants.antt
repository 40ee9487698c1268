use Rattle.rotations.proofs.Links.{LinkedSoFar}
use Rattle.rotations.proofs.linking.link.Given as goal

-- the darts of the edges so far form one ring, and those that leave other vertices are as they were
abbrev pub invariant-loop-i : goal.invariant-loop-i
invariant-loop-i l = LinkedSoFar l.tails l.initial.nodes l.nodes l.v l.list l.i
