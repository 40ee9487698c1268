use Rattle.std.proofs.Common.{◌≡◌, length}
use Rattle.contractions.specs.Marks.{AreNeighbourMarksBelow}
use Rattle.contractions.proofs.level.neighbour_marks.Given as goal

abbrev pub invariant-loop-edge : goal.invariant-loop-edge
invariant-loop-edge l = AreNeighbourMarksBelow l.g l.x l.edge l.marks.items × (length l.marks.items ≡ l.g.vertex_count)
