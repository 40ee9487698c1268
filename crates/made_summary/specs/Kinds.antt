-- Nodes of a tree by their kinds.
use Rattle.std.specs.Prelude.{◌≡◌, ℕ, ◌<◌, Bool, true, false, List, length}
use Rattle.permutations.specs.Count.{count}
use Rattle.pair_split.specs.Tutte.{Node, node_at}
use Rattle.pair_split.specs.declared.components.Kind.{Kind}
use Rattle.pair_split.specs.Kinds.{has_choices}

-- how many of the first n nodes are of a kind that passes
abbrev pub nodes_below : (Kind → Bool) → List Node → ℕ → ℕ
nodes_below passes nodes n = count n (λ k. passes (node_at nodes k).kind)

-- how many nodes are
abbrev pub nodes_of : (Kind → Bool) → List Node → ℕ
nodes_of passes nodes = nodes_below passes nodes (length nodes)

-- none of the first n nodes has choices
abbrev pub NoneHasChoices : List Node → ℕ → Type 0
NoneHasChoices nodes n = (k : ℕ) → k < n → has_choices (node_at nodes k).kind ≡ false

-- the least node that has choices
pub record IsLeastWithChoices (nodes : List Node) (k : ℕ) : Type 0 where
  pub is_node : k < length nodes
  pub has : has_choices (node_at nodes k).kind ≡ true
  pub none_before : NoneHasChoices nodes k
