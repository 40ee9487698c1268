-- The walk so far, and how many darts are to come.
use Rattle.std.proofs.Common.{◌-◌, length, slice_index}
use Rattle.permutations.specs.Count.{least}
use Rattle.multigraph.specs.Darts.{dart_count}
use Rattle.canonical_orders.specs.State.{leads_on}
use Rattle.canonical_orders.proofs.RingWalks.{IsOnTheWay}
use Rattle.canonical_orders.proofs.rings.arms.Given as goal

abbrev pub invariant-loop-darts : goal.invariant-loop-darts
invariant-loop-darts l = IsOnTheWay (dart_count l.map.graph) (slice_index l.map.next) (leads_on l.map l.on l.first) (slice_index l.map.next l.first) l.dart l.darts.items

abbrev pub decreases-loop-darts : goal.decreases-loop-darts
decreases-loop-darts l = least (dart_count l.map.graph) (leads_on l.map l.on l.first) - length l.darts.items
