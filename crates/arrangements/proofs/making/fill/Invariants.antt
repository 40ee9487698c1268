use Rattle.std.proofs.Common.{◌≡◌, ℕ, ◌<◌, ◌≤◌, length, take, get_or}
use Rattle.arrangements.specs.Options.{follower, IsLeastOption}
use Rattle.arrangements.specs.Prefixes.{ForBuilt, HaveBuilt, IsNoted, AreOpenedBetween}
use Rattle.arrangements.proofs.making.fill.Given as goal

-- the places so far are filled
abbrev pub invariant-loop-i : goal.invariant-loop-i
invariant-loop-i l = record {
  size : length l.list ≡ length l.tables.edges;
  before : take l.from l.list ≡ take l.from l.fn.list;
  noted : IsNoted l.tables l.prefix (take l.i l.list);
  low : l.low ≤ length l.tables.edges;
  opened : AreOpenedBetween l.tables l.prefix.opened.items 0 l.low;
  built : HaveBuilt l.tables (take l.i l.list);
  filled : ForBuilt l.tables (take l.from l.fn.list) (λ block order. (j : ℕ) → l.from ≤ j → j < l.i → IsLeastOption block (follower block order) l.tables.edges (take j l.list) 0 (get_or l.list j 0));
}
