use Rattle.std.proofs.Common.{◌≡◌, ◌+◌, ◌-◌, length, drop}
use Rattle.palm_tree.specs.Growing.{AreSizesSoFar}
use Rattle.palm_tree.proofs.sizes.sizes_below.Given as goal

abbrev pub invariant-loop-behind : goal.invariant-loop-behind
invariant-loop-behind g l = AreSizesSoFar l.graph l.search l.sizes.items (drop (length l.search.order - l.behind) l.search.order) × (l.steps ≡ l.initial.steps + l.behind)
