use Rattle.std.proofs.Common.{◌≡◌, ◌≤◌, length, take}
use Rattle.arrangements.specs.Prefixes.{ForBlocks}
use Rattle.arrangements.proofs.Passed.{IsPassed}
use Rattle.arrangements.proofs.kept.changed_rank.Given as goal

-- what is known of the edges so far
abbrev pub invariant-loop-edge : goal.invariant-loop-edge
invariant-loop-edge l = record {
  room : length l.expected ≡ length l.tables.edges;
  least : l.least ≤ length l.tables.edges;
  passed : ForBlocks l.tables (IsPassed l.tables l.expected l.least (take l.edge-index l.list));
}
