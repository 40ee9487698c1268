use Rattle.std.proofs.Common.{◌≡◌, take}
use Rattle.rotations.specs.Rings.{orders}
use Rattle.rotations.proofs.system.Rotation.lists.Given as goal

-- the lists of the rings so far
abbrev pub invariant-loop-ring : goal.invariant-loop-ring
invariant-loop-ring l = l.lists ≡ take l.ring-index (orders l.next.items l.ring-items)
