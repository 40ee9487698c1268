use Rattle.std.proofs.Common.{◌≡◌, ℕ, ◌+◌, ◌<◌, ◌≤◌, length}
use Rattle.skel_embed.specs.Block.{lock_at}
use Rattle.embed_enum.specs.Digits.{radix_at, digit_at}
use Rattle.embed_enum.proofs.leading.moves_to_next.Given as goal

abbrev pub invariant-loop-k : goal.invariant-loop-k
invariant-loop-k l = record {
  within : l.k ≤ length l.p.tree;
  last : (j : ℕ) → l.k ≤ j → j < length l.p.tree → digit_at l.p.tree (lock_at l.p.locks) l.p.rotation j + 1 ≡ radix_at l.p.tree (lock_at l.p.locks) j;
}

abbrev pub decreases-loop-k : goal.decreases-loop-k
decreases-loop-k l = l.k
