use Rattle.std.proofs.Common.{◌≡◌, ℕ, ◌<◌, ◌≤◌, length}
use Rattle.std.specs.List.{All}
use Rattle.multigraph.specs.Graph.{edge_count}
use Rattle.rotations.specs.Entries.{IsReachedAt}
use Rattle.rotations.specs.Given.{IsArranged}
use Rattle.rotations.proofs.arrangement.check_lists.Given as goal

-- the lists of the vertices so far are arrangements, and no mark is for a later one
abbrev pub invariant-loop-v : goal.invariant-loop-v
invariant-loop-v l = record {
  long : length l.seen.items ≡ edge_count l.g;
  earlier : All (λ s. s ≤ l.v) l.seen.items;
  reached : IsReachedAt l.lists l.at l.v;
  arranged : (w : ℕ) → w < l.v → IsArranged l.g l.lists w;
}
