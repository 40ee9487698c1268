use Rattle.std.proofs.Common.{◌≡◌, ◌<◌, ℕ, true, [], slice_index_or}
use Rattle.skel_embed.specs.Block.{lock_at}
use Rattle.skel_embed.proofs.choosing.first_other.Given as goal

abbrev pub invariant-loop-k : goal.invariant-loop-k
invariant-loop-k l = (j : ℕ) → j < l.k → lock_at l.locks j ≡ true → slice_index_or l.new j [] ≡ slice_index_or l.old j []
