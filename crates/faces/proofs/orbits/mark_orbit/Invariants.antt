-- The walk so far, and how many places it can still mark.
use Rattle.std.proofs.Common.{◌<◌, length, slice_index}
use Rattle.faces.proofs.Walk.{Walked}
use Rattle.faces.specs.Search.{unmarked_count}
use Rattle.faces.proofs.orbits.mark_orbit.Given as goal

abbrev pub invariant-loop-marks : goal.invariant-loop-marks
invariant-loop-marks l = Walked (slice_index l.images) l.fn.marks l.marks l.start l.place × (l.place < length l.images)

abbrev pub decreases-loop-marks : goal.decreases-loop-marks
decreases-loop-marks l = unmarked_count l.marks
