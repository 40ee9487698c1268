use Rattle.std.proofs.Common.{◌≡◌, ◌+◌, ◌≤◌, length}
use Rattle.search_forest.specs.Forest.{IsForest}
use Rattle.search_forest.specs.Searching.{looks_ahead, turns_left, KeepsRoots}
use Rattle.search_forest.proofs.search.Forest.explore.Given as goal

abbrev pub invariant-loop-vertex : goal.invariant-loop-vertex
invariant-loop-vertex g l =
    IsForest l.graph l.self × KeepsRoots l.initial.self l.self × (l.initial.steps ≤ l.steps)
    × (l.steps + turns_left l.graph l.self ≤ l.initial.steps + turns_left l.graph l.initial.self)
    × (l.steps + looks_ahead l.graph l.self + length l.self.path + length l.initial.self.order ≡ l.initial.steps + looks_ahead l.graph l.initial.self + length l.initial.self.path + length l.self.order)

abbrev pub decreases-loop-vertex : goal.decreases-loop-vertex
decreases-loop-vertex g l = turns_left l.graph l.self
