use Rattle.std.proofs.Common.{◌≡◌, take}
use Rattle.ring_arena.proofs.rings.Rings.list_next.Given as goal

-- the nodes after those so far
abbrev pub invariant-loop-d : goal.invariant-loop-d
invariant-loop-d l = l.list.items ≡ take l.d l.self.next
