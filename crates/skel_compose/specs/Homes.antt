-- State of a loop: the homes of the edges of a block, of each edge the node and the item that it is.
use Rattle.std.specs.Prelude.{◌≡◌, ℕ, ◌<◌, List, length, slice_index_or}
use Rattle.multigraph.specs.Graph.{Multigraph, edge_count}
use Rattle.pair_split.specs.Tutte.{Node, node_at, node_item}
use Rattle.pair_split.specs.declared.components.What.TheVariants.{Real}

-- the home of edge e in the list
abbrev pub home_at : List (ℕ × ℕ) → ℕ → ℕ × ℕ
home_at homes e = slice_index_or homes e (0, 0)

-- item i of node k is edge e
pub record IsHome (nodes : List Node) (k i e : ℕ) : Type 0 where
  pub is_item : i < length (node_at nodes k).items
  pub is_edge : (node_item nodes k i).what ≡ Real e

-- the list has the homes of the edges that the nodes before k and the first n items of node k have
pub record HasHomes (g : Multigraph) (nodes : List Node) (k n : ℕ) (homes : List (ℕ × ℕ)) : Type 0 where
  pub each : length homes ≡ edge_count g
  pub before : (j i e : ℕ) → j < k → IsHome nodes j i e → home_at homes e ≡ (j, i)
  pub here : (i e : ℕ) → i < n → IsHome nodes k i e → home_at homes e ≡ (k, i)
