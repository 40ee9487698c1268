use Rattle.std.proofs.Common.{◌≡◌, ◌<◌, ◌≤◌, ℕ}
use Rattle.graph_theory.specs.Labels.{label_at}
use Rattle.pair_split.specs.Bridges.{family_of}
use Rattle.pair_split.specs.Search.{IsBest, IsAtMostBridge}
use Rattle.pair_split.proofs.search.best_of_bridges.Given as goal

abbrev pub invariant-loop-label : goal.invariant-loop-label
invariant-loop-label l = (IsBest (family_of l.edges) l.best) × (l.best.size ≤ l.fn.best.size)
    × ((label : ℕ) → label < l.label → label_at l.labels label ≡ label → IsAtMostBridge l.edges l.a l.b l.labels label l.best.size)
