use Rattle.std.proofs.Common.{◌≡◌, ◌<◌, ℕ, length}
use Rattle.pair_split.specs.Tutte.{node_item}
use Rattle.spqr_tree.specs.Keys.{parent_at}
use Rattle.skel_decompose.specs.Orders.{far_end}
use Rattle.skel_decompose.proofs.ordering.first_parents.Given as goal

abbrev pub invariant-loop-k : goal.invariant-loop-k
invariant-loop-k l = (length l.parents.items ≡ l.k) × ((j : ℕ) → j < l.k → parent_at l.parents.items j ≡ far_end (node_item l.tree j 0).what)
