use Rattle.std.proofs.Common.{◌≡◌, ◌↔◌, length}
use Rattle.rotations.proofs.system.same_round.Given as goal

-- the walks were equal exactly where what is left of them is
abbrev pub invariant-loop-e : goal.invariant-loop-e
invariant-loop-e l = (l.left ≡ l.right) ↔ (l.initial.left ≡ l.initial.right)

abbrev pub decreases-loop-e : goal.decreases-loop-e
decreases-loop-e l = length l.left
