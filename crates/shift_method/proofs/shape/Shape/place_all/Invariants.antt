use Rattle.std.proofs.Common.{◌≡◌, ◌≤◌, drop, length}
use Rattle.shift_method.specs.Shapes.{all_placed}
use Rattle.shift_method.proofs.shape.Shape.place_all.Given as goal

abbrev pub invariant-loop-k : goal.invariant-loop-k
invariant-loop-k l = (l.k ≤ length l.removals) × (l.self ≡ all_placed l.initial.self (drop l.k l.removals))

abbrev pub decreases-loop-k : goal.decreases-loop-k
decreases-loop-k l = l.k
