use Rattle.std.proofs.Common.{◌≡◌, List, ℕ, [], Some, length}
use Rattle.spqr_session.specs.Sorting.{AreWaiting, AreGathered}
use Rattle.spqr_session.proofs.sorting.start_lists.Given as goal

-- nothing waits, and the blocks have the entries of the vertices so far
abbrev pub invariant-loop-v : goal.invariant-loop-v
invariant-loop-v l = record {
  waits : AreWaiting l.of_edge.items [] (length l.blocks.blocks) l.waiting.items;
  counted : length l.lists.items ≡ length l.blocks.blocks;
  gathered : (starts : List (List ℕ)) → l.named.start ≡ Some starts → AreGathered l.of_edge.items starts l.v (length l.blocks.blocks) l.lists.items;
}
