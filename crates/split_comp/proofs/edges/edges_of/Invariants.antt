use Rattle.std.proofs.Common.{◌≡◌, ◌+◌, take, filter}
use Rattle.pair_split.specs.Bridges.{family_of}
use Rattle.split_comp.specs.Pass.{drawn_items, goes}
use Rattle.split_comp.proofs.edges.edges_of.Given as goal

abbrev pub invariant-loop-x : goal.invariant-loop-x
invariant-loop-x g l = (family_of l.edges.items ≡ drawn_items l.g l.tree.vertex (filter (goes l.apart) (take l.x-index l.items))) × (l.steps ≡ l.initial.steps + l.x-index)
