use Rattle.std.proofs.Common.{◌≡◌, ℕ, ◌+◌, ◌<◌, ◌≤◌, [], true, length}
use Rattle.multigraph.specs.Marks.{is_marked}
use Rattle.search_forest.specs.Forest.{fresh, IsForest}
use Rattle.search_forest.specs.Searching.{looks_ahead, turns_left}
use Rattle.search_forest.proofs.search.Forest.of.Given as goal

abbrev pub invariant-loop-root : goal.invariant-loop-root
invariant-loop-root g l =
    IsForest l.graph l.forest × (l.forest.path ≡ []) × ((u : ℕ) → u < l.root → is_marked l.forest.visited u ≡ true) × (l.initial.steps ≤ l.steps)
    × (l.steps + turns_left l.graph l.forest ≤ l.initial.steps + turns_left l.graph (fresh l.graph) + l.root + l.root)
    × (l.steps + looks_ahead l.graph l.forest ≡ l.initial.steps + looks_ahead l.graph (fresh l.graph) + l.root + length l.forest.order)
