use Rattle.std.proofs.Common.{◌≡◌, ◌≤◌, ℕ, List, [], length}
use Rattle.face_weights.specs.Numbers.{KnowFaces}
use Rattle.face_weights.specs.Passes.{AreLight, AreBelow}
use Rattle.face_weights.proofs.weighing.pass_up.Given as goal

abbrev pub invariant-loop-p : goal.invariant-loop-p
invariant-loop-p l = (length l.below.items ≡ length l.tree) × (l.p ≤ length l.order) × AreLight l.tree l.parents l.below.items [] × ((family : List (List (List ℕ))) → KnowFaces l.tree family l.faces → AreBelow l.tree family l.parents l.order l.p l.below.items)

abbrev pub decreases-loop-p : goal.decreases-loop-p
decreases-loop-p l = l.p
