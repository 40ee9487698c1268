use Rattle.std.proofs.Common.{◌≡◌, drop}
use Rattle.kuratowski.specs.Checking.{marked_also, are_free}
use Rattle.kuratowski.proofs.checking.mark_all.Given as goal

abbrev pub invariant-loop-vertex : goal.invariant-loop-vertex
invariant-loop-vertex l = record {
  free : are_free l.marks (drop l.vertex-index l.vertices) ≡ are_free l.fn.marks l.vertices;
  marked : marked_also l.marks (drop l.vertex-index l.vertices) ≡ marked_also l.fn.marks l.vertices;
}
