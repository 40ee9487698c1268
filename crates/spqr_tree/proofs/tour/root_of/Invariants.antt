use Rattle.std.proofs.Common.{◌≡◌, ◌<◌, ℕ}
use Rattle.pair_split.specs.declared.components.What.TheVariants.{Real}
use Rattle.spqr_tree.specs.Tour.{what_at}
use Rattle.spqr_tree.proofs.tour.root_of.Given as goal

abbrev pub invariant-loop-k : goal.invariant-loop-k
invariant-loop-k l = (k : ℕ) → k < l.k → what_at l.nodes k 0 ≡ Real 0 → ⊥
