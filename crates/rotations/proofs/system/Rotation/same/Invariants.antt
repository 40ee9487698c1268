use Rattle.std.proofs.Common.{◌≡◌, ℕ, ◌<◌}
use Rattle.rotations.specs.Rotation.{order_at}
use Rattle.rotations.proofs.system.Rotation.same.Given as goal

-- the orders so far are equal
abbrev pub invariant-loop-v : goal.invariant-loop-v
invariant-loop-v l = (w : ℕ) → w < l.v → order_at l.self w ≡ order_at l.other w
