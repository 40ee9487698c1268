-- Those so far.
use Rattle.std.proofs.Common.{◌≡◌, take, filter}
use Rattle.multigraph.specs.Marks.{is_marked}
use Rattle.spqr_session.proofs.marks.marked_vertices.Given as goal

abbrev pub invariant-loop-i : goal.invariant-loop-i
invariant-loop-i l = l.list.items ≡ filter (is_marked l.marks) (take l.i l.part.vertices)
