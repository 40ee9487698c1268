use Rattle.std.proofs.Common.{◌≡◌, ℕ, length}
use Rattle.shift_method.specs.Peeled.{IsPeeled, ArePositions}
use Rattle.shift_method.proofs.Reached.{AreReached}
use Rattle.shift_method.proofs.spreading.positions.Given as goal

abbrev pub invariant-loop-removal : goal.invariant-loop-removal
invariant-loop-removal l = (length l.x.items ≡ l.vertices)
    × ((p : IsPeeled l.vertices l.left l.right l.removals) (z : ℕ → ℕ) → ArePositions l.vertices l.left l.right l.removals l.shape z → AreReached l.vertices l.left l.right l.removals p z l.removal-index l.x.items)
