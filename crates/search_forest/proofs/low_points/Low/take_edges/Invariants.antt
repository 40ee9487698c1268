use Rattle.std.proofs.Common.{◌≡◌, ◌+◌, []}
use Rattle.search_forest.specs.Low.{AreLowSoFar}
use Rattle.search_forest.proofs.low_points.Low.take_edges.Given as goal

abbrev pub invariant-loop-edge : goal.invariant-loop-edge
invariant-loop-edge g l = AreLowSoFar l.graph l.search l.self l.edge [] × (l.steps ≡ l.initial.steps + l.edge)
