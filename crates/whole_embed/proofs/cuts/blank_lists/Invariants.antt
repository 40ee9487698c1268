use Rattle.std.proofs.Common.{◌≡◌, ◌<◌, ℕ, [], length, map, slice_index_or}
use Rattle.whole_embed.specs.Keeping.{tables_at}
use Rattle.whole_embed.proofs.cuts.blank_lists.Given as goal

abbrev pub invariant-loop-tables : goal.invariant-loop-tables
invariant-loop-tables l = (length l.lists.items ≡ l.tables-index) × ((i : ℕ) → i < l.tables-index → length (slice_index_or (map (λ x. x.items) l.lists.items) i []) ≡ length (tables_at l.orders i).edges)
