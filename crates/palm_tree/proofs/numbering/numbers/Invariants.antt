use Rattle.std.proofs.Common.{◌≡◌, ◌+◌, take}
use Rattle.palm_tree.specs.Growing.{AreNumbersSoFar}
use Rattle.palm_tree.proofs.numbering.numbers.Given as goal

abbrev pub invariant-loop-vertex : goal.invariant-loop-vertex
invariant-loop-vertex g l = AreNumbersSoFar l.graph l.search l.sizes l.offset (take l.vertex-index l.search.order) l.number.items × (l.steps ≡ l.initial.steps + l.vertex-index)
