use Rattle.std.proofs.Common.{◌≡◌, ℕ, ◌+◌, ◌<◌, ◌≤◌, length}
use Rattle.skel_embed.specs.Block.{lock_at}
use Rattle.embed_enum.specs.Digits.{radix_at, digit_at}
use Rattle.embed_enum.proofs.walking.next.Given as goal

abbrev pub invariant-loop-k : goal.invariant-loop-k
invariant-loop-k l = record {
  same : l.p ≡ l.initial.p;
  within : l.k ≤ length l.initial.p.tree;
  last : (j : ℕ) → l.k ≤ j → j < length l.initial.p.tree → digit_at l.initial.p.tree (lock_at l.initial.p.locks) l.initial.p.rotation j + 1 ≡ radix_at l.initial.p.tree (lock_at l.initial.p.locks) j;
}

abbrev pub decreases-loop-k : goal.decreases-loop-k
decreases-loop-k l = l.k
