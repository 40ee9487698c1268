use Rattle.std.proofs.Common.{◌≡◌, ◌+◌, None}
use Rattle.palm_tree.specs.Growing.{Tells, parent_at}
use Rattle.palm_tree.proofs.structure.parents.Given as goal

abbrev pub invariant-loop-vertex : goal.invariant-loop-vertex
invariant-loop-vertex g l = Tells None (parent_at l.search) l.vertex l.parents.items × (l.steps ≡ l.initial.steps + l.vertex)
