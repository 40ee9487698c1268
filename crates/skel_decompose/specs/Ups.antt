-- State of the climbs: of each node the link to it from its parent, in the tree that hangs from the node with edge 0, and ranks.
use Rattle.std.specs.Prelude.{◌≡◌, ℕ, ◌+◌, ◌<◌, List, length, slice_index_or}
use Rattle.pair_split.specs.Tutte.{Node, node_at, node_item}
use Rattle.pair_split.specs.declared.components.What.TheVariants.{Link}
pub use Rattle.skel_decompose.specs.declared.ups.UpLink.{UpLink}

-- the link to node x
abbrev pub up_at : List UpLink → ℕ → UpLink
up_at ups x = slice_index_or ups x (record { node = 0; item = 0; lesser = 0 })

-- item i of node k as such a link
abbrev pub up_link : List Node → ℕ → ℕ → UpLink
up_link nodes k i = record { node = k; item = i; lesser = (node_item nodes k i).a }

-- the list has the links from the nodes before k to their children, and those of the items of node k before n; the first item of a node is no
-- link to a child
pub record HaveUps (nodes : List Node) (k n : ℕ) (ups : List UpLink) : Type 0 where
  pub each : length ups ≡ length nodes
  pub before : (j i x : ℕ) → j < k → i + 1 < length (node_at nodes j).items → (node_item nodes j (i + 1)).what ≡ Link x → up_at ups x ≡ up_link nodes j (i + 1)
  pub here : (i x : ℕ) → i + 1 < n → i + 1 < length (node_at nodes k).items → (node_item nodes k (i + 1)).what ≡ Link x → up_at ups x ≡ up_link nodes k (i + 1)

-- the rank of node k
abbrev pub rank_at : List ℕ → ℕ → ℕ
rank_at ranks k = slice_index_or ranks k 0

-- no two nodes have one rank, and a parent has a lower one
pub record AreRanks (nodes : List Node) (ranks : List ℕ) : Type 0 where
  pub each : length ranks ≡ length nodes
  pub once : (k j : ℕ) → k < length nodes → j < length nodes → rank_at ranks k ≡ rank_at ranks j → k ≡ j
  pub falls : (k p : ℕ) → k < length nodes → (node_item nodes k 0).what ≡ Link p → rank_at ranks p < rank_at ranks k
