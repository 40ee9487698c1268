use Rattle.std.proofs.Common.{◌≡◌, ◌<◌, ℕ, length}
use Rattle.kuratowski.specs.Subdivision.{path_at}
use Rattle.minimal_graphs.specs.Whole.{IsEdgePath}
use Rattle.minimal_graphs.proofs.reading.paths_between.Given as goal

abbrev pub invariant-loop-pair : goal.invariant-loop-pair
invariant-loop-pair l = record {
  long : length l.paths.items ≡ l.pair-index;
  each : (k : ℕ) → k < l.pair-index → IsEdgePath l.g l.fn.kind l.branch k (path_at l.paths.items k);
}
