-- The walk so far, and how many darts are to come.
use Rattle.std.proofs.Common.{◌-◌, length, slice_index}
use Rattle.permutations.specs.Ring.{orbit_length}
use Rattle.multigraph.specs.Darts.{dart_count}
use Rattle.canonical_orders.proofs.RingWalks.{IsAround}
use Rattle.canonical_orders.proofs.rings.around.Given as goal

abbrev pub invariant-loop-dart : goal.invariant-loop-dart
invariant-loop-dart l = IsAround (dart_count l.map.graph) (slice_index l.map.next) l.first l.dart l.darts.items

abbrev pub decreases-loop-dart : goal.decreases-loop-dart
decreases-loop-dart l = orbit_length (dart_count l.map.graph) (slice_index l.map.next) l.first - length l.darts.items
