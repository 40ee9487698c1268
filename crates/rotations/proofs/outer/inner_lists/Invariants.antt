use Rattle.std.proofs.Common.{ℕ, ◌<◌, ◌≤◌, length, get_or}
use Rattle.rotations.specs.Entries.{entry}
use Rattle.rotations.specs.PartLists.{AreInnerBelow}
use Rattle.rotations.proofs.outer.inner_lists.Given as goal

-- the entries of the vertices so far, and the entries before the place are for smaller vertices than the next
abbrev pub invariant-loop-i : goal.invariant-loop-i
invariant-loop-i l = record {
  so_far : AreInnerBelow l.p l.lists l.inner l.i;
  within : l.at ≤ length l.lists;
  smaller : (j x : ℕ) → j < l.at → l.i ≤ x → x < length l.p.vertices → (entry l.lists j).0 < get_or l.p.vertices x 0;
}
