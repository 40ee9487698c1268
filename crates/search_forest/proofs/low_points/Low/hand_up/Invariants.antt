use Rattle.std.proofs.Common.{◌≡◌, ◌+◌, ◌-◌, length, drop}
use Rattle.multigraph.specs.Graph.{edge_count}
use Rattle.search_forest.specs.Low.{AreLowSoFar}
use Rattle.search_forest.proofs.low_points.Low.hand_up.Given as goal

abbrev pub invariant-loop-after : goal.invariant-loop-after
invariant-loop-after g l = AreLowSoFar l.graph l.search l.self (edge_count l.graph) (drop (length l.search.order - l.after) l.search.order) × (l.steps ≡ l.initial.steps + l.after)
