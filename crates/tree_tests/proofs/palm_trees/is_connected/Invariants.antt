use Rattle.std.proofs.Common.{◌≡◌, ℕ, ◌<◌, slice_index}
use Rattle.tree_tests.proofs.palm_trees.is_connected.Given as goal

-- the vertices so far are in component 0
abbrev pub invariant-loop-v : goal.invariant-loop-v
invariant-loop-v l = (u : ℕ) → u < l.v → slice_index l.structure.components u ≡ 0
