use Rattle.std.proofs.Common.{◌≡◌, ◌+◌, ◌++◌, take}
use Rattle.palm_tree.specs.Growing.{lower_ends, tree_edges}
use Rattle.palm_tree.proofs.numbering.add_children.Given as goal

abbrev pub invariant-loop-edge : goal.invariant-loop-edge
invariant-loop-edge g l = (l.children.items ≡ l.initial.children.items ++ lower_ends l.search (tree_edges l.search l.low l.hanging (take l.edge-index l.edges))) × (l.steps ≡ l.initial.steps + l.edge-index)
