use Rattle.std.proofs.Common.{◌≢◌, ◌<◌, ℕ, slice_index}
use Rattle.arrangements.specs.Tables.{rank_in}
use Rattle.whole_embed.proofs.regrouping.block_of_rank.Given as goal

abbrev pub invariant-loop-p : goal.invariant-loop-p
invariant-loop-p l = (j : ℕ) → j < l.p → rank_in l.orders (slice_index l.at j) ≢ l.rank
