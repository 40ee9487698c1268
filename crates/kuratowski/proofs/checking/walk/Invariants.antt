use Rattle.std.proofs.Common.{◌≡◌, drop}
use Rattle.graph_theory.specs.Path.{walk_starts, walk_end}
use Rattle.kuratowski.specs.Checking.{is_free_walk, marked_also}
use Rattle.kuratowski.proofs.checking.walk.Given as goal

abbrev pub invariant-loop-edge : goal.invariant-loop-edge
invariant-loop-edge l = record {
  free : is_free_walk l.g l.marks l.at (drop l.edge-index l.edges) ≡ is_free_walk l.g l.fn.marks l.from l.edges;
  leads : walk_end l.g l.at (drop l.edge-index l.edges) ≡ walk_end l.g l.from l.edges;
  marked : marked_also l.marks (walk_starts l.g l.at (drop l.edge-index l.edges)) ≡ marked_also l.fn.marks (walk_starts l.g l.from l.edges);
}
