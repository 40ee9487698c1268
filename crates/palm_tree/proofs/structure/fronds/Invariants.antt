use Rattle.std.proofs.Common.{◌≡◌, ◌+◌, false, not}
use Rattle.palm_tree.specs.Growing.{Tells, is_tree_edge}
use Rattle.palm_tree.proofs.structure.fronds.Given as goal

abbrev pub invariant-loop-edge : goal.invariant-loop-edge
invariant-loop-edge g l = Tells false (λ e. not (is_tree_edge l.search e)) l.edge l.fronds.items × (l.steps ≡ l.initial.steps + l.edge)
