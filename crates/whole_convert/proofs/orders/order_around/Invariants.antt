use Rattle.std.proofs.Common.{◌≡◌, ◌++◌, ◌<◌, ℕ, true, length, map, slice_index}
use Rattle.permutations.specs.Members.{is_member}
use Rattle.multigraph.specs.Graph.{edge_count}
use Rattle.whole_convert.proofs.orders.order_around.Given as goal

abbrev pub invariant-loop-edge : goal.invariant-loop-edge
invariant-loop-edge l = (l.order.items ++ map (slice_index l.part.edges) l.round ≡ map (slice_index l.part.edges) l.initial.round) × ((e : ℕ) → is_member e l.round ≡ true → e < edge_count l.part.graph)

abbrev pub decreases-loop-edge : goal.decreases-loop-edge
decreases-loop-edge l = length l.round
