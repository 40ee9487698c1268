use Rattle.std.proofs.Common.{◌≡◌, ◌+◌, take}
use Rattle.palm_tree.specs.Growing.{AreOffsetsSoFar}
use Rattle.palm_tree.proofs.numbering.offsets.Given as goal

abbrev pub invariant-loop-child : goal.invariant-loop-child
invariant-loop-child g l = AreOffsetsSoFar l.graph l.search l.sizes (take l.child-index l.children) l.offset.items l.filled.items × (l.steps ≡ l.initial.steps + l.child-index)
