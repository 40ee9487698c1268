-- The orbits that begin among the darts so far are marked and listed.
use Rattle.std.proofs.Common.{slice_index}
use Rattle.faces.proofs.Listed.{ListedBelow}
use Rattle.faces.proofs.tracing.list_orbits.Given as goal

abbrev pub invariant-loop-start : goal.invariant-loop-start
invariant-loop-start l = ListedBelow l.graph (slice_index l.images) l.order l.start-index l.marks l.faces
