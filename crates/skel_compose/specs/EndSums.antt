-- Sums over the items that meet at a vertex of a node: in a polygon two items do.
use Rattle.std.specs.Prelude.{◌≡◌, ℕ, ◌<◌, true, cond, List, length, slice_index_or}
use Rattle.permutations.specs.Count.{sum_below}
use Rattle.pair_split.specs.Tutte.{Node, node_at}
use Rattle.pair_split.specs.declared.components.Item.{Item}
use Rattle.skeletons.specs.Items.{ends_item, nth_item, has_vertex}

-- the sum of the places of those of the first items that have the end v
abbrev pub end_sum : List Item → ℕ → ℕ → ℕ
end_sum items v count = sum_below count (λ i. cond (ends_item v (nth_item items i)) i 0)

-- the list has this sum for each vertex of node k
abbrev pub AreEndSums : List Node → ℕ → ℕ → List ℕ → Type 0
AreEndSums nodes k count sums = (v : ℕ) → has_vertex nodes k v ≡ true → (v < length sums) × (slice_index_or sums v 0 ≡ end_sum (node_at nodes k).items v count)
