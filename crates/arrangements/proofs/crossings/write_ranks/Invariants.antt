use Rattle.std.proofs.Common.{◌≡◌, ◌<◌, ◌≤◌, ℕ, length, map, take, slice_index}
use Rattle.arrangements.specs.Tables.{rank_in}
use Rattle.arrangements.proofs.crossings.write_ranks.Given as goal

-- the places so far
abbrev pub invariant-loop-i : goal.invariant-loop-i
invariant-loop-i l = record {
  size : length l.ranks ≡ length l.tables.edges;
  ranks : take l.i l.ranks ≡ map (rank_in l.tables) (take l.i l.list);
  below : (j : ℕ) → j < l.i → slice_index l.ranks j < l.bound;
  bound : l.bound ≤ length l.tables.edges;
}
