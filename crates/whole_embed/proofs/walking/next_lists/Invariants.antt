use Rattle.std.proofs.Common.{◌≡◌, ℕ, ◌<◌, ◌≤◌, [], length, slice_index_or}
use Rattle.choice_lists.specs.Products.{IsLast}
use Rattle.whole_embed.specs.Cuts.{blocks_in}
use Rattle.whole_embed.specs.Walk.{arrangements_at_place}
use Rattle.whole_embed.proofs.walking.next_lists.Given as goal

abbrev pub invariant-loop-i : goal.invariant-loop-i
invariant-loop-i l = record {
  same : l.cuts ≡ l.initial.cuts;
  within : l.i ≤ length l.initial.cuts.component.cuts;
  last : (j : ℕ) → l.i ≤ j → j < length l.initial.cuts.component.cuts → IsLast (arrangements_at_place l.initial.cuts.component (blocks_in l.all) j) (slice_index_or l.initial.cuts.lists j []);
}

abbrev pub decreases-loop-i : goal.decreases-loop-i
decreases-loop-i l = l.i
