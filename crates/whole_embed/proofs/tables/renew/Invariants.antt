use Rattle.std.proofs.Common.{◌≡◌, ◌<◌, ℕ, length, slice_index}
use Rattle.arrangements.specs.Options.{follower}
use Rattle.arrangements.specs.Tables.{follow_in}
use Rattle.whole_embed.specs.Around.{edges_around, block_with, block_order}
use Rattle.whole_embed.specs.Cuts.{blocks_in}
use Rattle.whole_embed.specs.Keeping.{KeepsTables}
use Rattle.whole_embed.proofs.tables.renew.Given as goal

abbrev pub invariant-loop-inner : goal.invariant-loop-inner
invariant-loop-inner l = KeepsTables l.frame l.v l.orders × (length l.orders.followers ≡ length l.orders.edges)
    × ((j : ℕ) → j < l.inner-index → follow_in l.orders (slice_index (edges_around l.frame l.v) j) ≡ follower (block_with l.frame) (block_order (blocks_in l.all) l.v) (slice_index (edges_around l.frame l.v) j))
