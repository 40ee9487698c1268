use Rattle.std.proofs.Common.{◌≡◌, ◌+◌, get_or}
use Rattle.palm_tree.specs.Growing.{Tells}
use Rattle.palm_tree.proofs.structure.numbers_at.Given as goal

abbrev pub invariant-loop-vertex : goal.invariant-loop-vertex
invariant-loop-vertex g l = Tells 0 (λ v. get_or l.number (get_or l.vertices v 0) 0) l.vertex-index l.numbers.items × (l.steps ≡ l.initial.steps + l.vertex-index)
