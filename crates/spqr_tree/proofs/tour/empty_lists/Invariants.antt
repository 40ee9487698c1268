use Rattle.std.proofs.Common.{◌≡◌, ℕ, length}
use Rattle.spqr_tree.specs.Tour.{bound_count}
use Rattle.spqr_tree.proofs.tour.empty_lists.Given as goal

abbrev pub invariant-loop-k : goal.invariant-loop-k
invariant-loop-k l = (length l.lists.items ≡ l.k) × ((x : ℕ) → bound_count l.lists.items x ≡ 0)
