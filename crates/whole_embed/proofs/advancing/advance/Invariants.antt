use Rattle.std.proofs.Common.{◌≡◌, ℕ, ◌<◌, ◌≤◌, length, slice_index}
use Rattle.whole_embed.specs.Cuts.{member_at}
use Rattle.whole_embed.specs.Advanced.{IsLastMember}
use Rattle.whole_embed.proofs.advancing.advance.Given as goal

abbrev pub invariant-loop-j : goal.invariant-loop-j
invariant-loop-j l = record {
  same : l.all ≡ l.initial.all;
  within : l.j ≤ length l.blocks;
  last : (i : ℕ) → l.j ≤ i → i < length l.blocks → IsLastMember (member_at l.initial.all (slice_index l.blocks i));
}

abbrev pub decreases-loop-j : goal.decreases-loop-j
decreases-loop-j l = l.j
