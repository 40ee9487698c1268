use Rattle.std.proofs.Common.{◌≡◌, ℕ, List, length}
use Rattle.face_weights.specs.Numbers.{KnowFaces}
use Rattle.face_weights.specs.Passes.{AreLight, AreDone}
use Rattle.face_weights.proofs.weighing.pass_down.Given as goal

abbrev pub invariant-loop-p : goal.invariant-loop-p
invariant-loop-p l = (length l.above.items ≡ length l.tree) × AreLight l.tree l.parents l.below l.above.items × ((family : List (List (List ℕ))) → KnowFaces l.tree family l.faces → AreDone l.tree family l.parents l.order l.below l.above.items l.p l.most l.top) × (l.p ≡ 0 → l.most ≡ 0)
