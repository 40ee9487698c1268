use Rattle.std.proofs.Common.{◌≡◌, ◌==◌, ◌&&◌, false}
use Rattle.permutations.specs.Count.{some}
use Rattle.multigraph.specs.Graph.{is_end, other_end}
use Rattle.contract_obstruct.proofs.crossing.joining_edge.Given as goal

abbrev pub invariant-loop-edge : goal.invariant-loop-edge
invariant-loop-edge l = some l.edge (λ f. is_end l.g l.y f && (other_end l.g f l.y == l.p)) ≡ false
