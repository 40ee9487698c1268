-- The vertices, items and keys of a node of the tree.
use Rattle.std.specs.Prelude.{ℕ, Bool, ◌||◌, ◌==◌, List, map, filter, slice_index_or}
use Rattle.permutations.specs.Cyclic.{first_or, last_or}
use Rattle.permutations.specs.Members.{is_member}
use Rattle.multigraph.specs.Graph.{Multigraph, IsGraph}
use Rattle.graph_theory.specs.Block.{IsOneBlock}
use Rattle.pair_split.specs.Tutte.{Node, node_at, IsTutte}
use Rattle.pair_split.specs.declared.components.Item.{Item}
use Rattle.pair_split.specs.declared.components.What.TheVariants.{Real}

-- whether v is an end of the item
abbrev pub ends_item : ℕ → Item → Bool
ends_item v item = (item.a == v) || (item.b == v)

-- the key of an item
abbrev pub item_key : Item → ℕ
item_key item = item.key

-- item i of a list; one without meaning past the end
abbrev pub nth_item : List Item → ℕ → Item
nth_item items i = slice_index_or items i (record { key = 0; a = 0; b = 0; what = Real 0 })

-- the items of node k that have the end v, in order of their keys
abbrev pub items_at : List Node → ℕ → ℕ → List Item
items_at nodes k v = filter (ends_item v) (node_at nodes k).items

-- their keys, in increasing order
abbrev pub keys_at : List Node → ℕ → ℕ → List ℕ
keys_at nodes k v = map item_key (items_at nodes k v)

-- the keys of all items of node k, in increasing order
abbrev pub node_keys : List Node → ℕ → List ℕ
node_keys nodes k = map item_key (node_at nodes k).items

-- whether v is a vertex of node k
abbrev pub has_vertex : List Node → ℕ → ℕ → Bool
has_vertex nodes k v = is_member v (node_at nodes k).vertices

-- the least vertex of node k: of a bond the lesser pole
abbrev pub least_vertex : List Node → ℕ → ℕ
least_vertex nodes k = first_or 0 (node_at nodes k).vertices

-- the greatest vertex of node k: of a bond the other pole
abbrev pub greatest_vertex : List Node → ℕ → ℕ
greatest_vertex nodes k = last_or 0 (node_at nodes k).vertices

-- g is a graph of one block, and the nodes are its tree
pub record IsBlockTree (g : Multigraph) (nodes : List Node) : Type 0 where
  pub graph : IsGraph g
  pub block : IsOneBlock g
  pub tree : IsTutte g nodes
