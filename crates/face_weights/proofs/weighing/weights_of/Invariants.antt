use Rattle.std.proofs.Common.{◌≡◌, ℕ, ◌<◌, length}
use Rattle.skeletons.specs.Items.{nth_item}
use Rattle.face_weights.specs.Weights.{weight_by}
use Rattle.face_weights.specs.Sums.{weight_in}
use Rattle.face_weights.proofs.weighing.weights_of.Given as goal

abbrev pub invariant-loop-item : goal.invariant-loop-item
invariant-loop-item l = (length l.weights.items ≡ l.item-index) × ((i : ℕ) → i < l.item-index → weight_in l.weights.items i ≡ weight_by l.parent (weight_in l.below) l.above (nth_item l.items i).what)
