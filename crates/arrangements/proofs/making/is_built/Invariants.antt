use Rattle.std.proofs.Common.{take}
use Rattle.arrangements.specs.Options.{follower, IsBuilt}
use Rattle.arrangements.specs.Prefixes.{ForBlocks, IsNoted}
use Rattle.arrangements.proofs.making.is_built.Given as goal

-- each edge so far may come after those before it
abbrev pub invariant-loop-i : goal.invariant-loop-i
invariant-loop-i l = record {
  noted : IsNoted l.tables l.prefix (take l.i l.list);
  built : ForBlocks l.tables (λ block order. IsBuilt block (follower block order) l.tables.edges (take l.i l.list));
}
