use Rattle.std.proofs.Common.{◌≡◌, ◌<◌, ℕ, length, slice_index}
use Rattle.whole_embed.specs.Keeping.{KeepsTables, tables_at}
use Rattle.whole_embed.proofs.cuts.all_tables.Given as goal

abbrev pub invariant-loop-v : goal.invariant-loop-v
invariant-loop-v l = (length l.orders.items ≡ l.v-index) × ((i : ℕ) → i < l.v-index → KeepsTables l.frame (slice_index l.frame.cuts i) (tables_at l.orders.items i))
