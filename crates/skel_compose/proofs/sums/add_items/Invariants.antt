use Rattle.std.proofs.Common.{◌≡◌, length}
use Rattle.skel_compose.specs.EndSums.{AreEndSums}
use Rattle.skel_compose.proofs.sums.add_items.Given as goal

abbrev pub invariant-loop-i : goal.invariant-loop-i
invariant-loop-i l = (length l.sums ≡ length l.initial.sums) × AreEndSums l.tree l.k l.i l.sums
