-- The heads of the arms so far.
use Rattle.std.proofs.Common.{◌≡◌, ◌∷◌, take}
use Rattle.canonical_orders.specs.State.{heads_of}
use Rattle.canonical_orders.proofs.rings.heads.Given as goal

abbrev pub invariant-loop-arm : goal.invariant-loop-arm
invariant-loop-arm l = l.heads.items ≡ heads_of l.map.graph (l.first ∷ take l.arm-index l.arms)
