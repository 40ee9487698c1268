-- The walk so far, and how many places it can still mark.
use Rattle.std.proofs.Common.{◌<◌, slice_index}
use Rattle.faces.specs.Euler.{dart_count}
use Rattle.faces.proofs.Traced.{Traced}
use Rattle.faces.specs.Search.{unmarked_count}
use Rattle.faces.proofs.tracing.walk_orbit.Given as goal

abbrev pub invariant-loop-marks : goal.invariant-loop-marks
invariant-loop-marks l = Traced l.graph (slice_index l.images) l.fn.marks l.marks l.start l.place l.pairs.items × (l.place < dart_count l.graph)

abbrev pub decreases-loop-marks : goal.decreases-loop-marks
decreases-loop-marks l = unmarked_count l.marks
