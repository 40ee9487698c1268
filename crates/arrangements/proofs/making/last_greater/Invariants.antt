use Rattle.std.proofs.Common.{ℕ, ◌<◌, ◌≤◌, length, take, get_or}
use Rattle.arrangements.specs.Options.{follower}
use Rattle.arrangements.specs.Prefixes.{ForBuilt, HasGreater, NoneGreater, IsNoted, AreOpenedBetween}
use Rattle.arrangements.proofs.making.last_greater.Given as goal

-- the last place so far at which a greater edge may come
abbrev pub invariant-loop-i : goal.invariant-loop-i
invariant-loop-i l = record {
  noted : IsNoted l.tables l.prefix (take l.i l.list);
  count : l.count ≤ length l.tables.edges;
  opened : AreOpenedBetween l.tables l.prefix.opened.items l.count (length l.tables.edges);
  within : 0 < l.last → l.last < l.i;
  greater : 0 < l.last → ForBuilt l.tables l.list (λ block order. HasGreater block (follower block order) l.tables.edges (take l.last l.list) (get_or l.list l.last 0));
  none : ForBuilt l.tables l.list (λ block order. (j : ℕ) → l.last < j → j < l.i → NoneGreater block (follower block order) l.tables.edges (take j l.list) (get_or l.list j 0));
}
