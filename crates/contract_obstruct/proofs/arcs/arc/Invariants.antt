use Rattle.std.proofs.Common.{◌≡◌, ◌-◌, ◌/◌, ◌++◌, map}
use Rattle.permutations.specs.Ring.{images}
use Rattle.contract_obstruct.specs.Arcs.{along, arc_of}
use Rattle.contract_obstruct.proofs.arcs.arc.Given as goal

abbrev pub invariant-loop-left : goal.invariant-loop-left
invariant-loop-left l = l.edges.items ++ map (λ c. c / 2) (images (along l.next) (l.left - 2) l.at) ≡ map (λ c. c / 2) (arc_of l.next l.dart)

abbrev pub decreases-loop-left : goal.decreases-loop-left
decreases-loop-left l = l.left
