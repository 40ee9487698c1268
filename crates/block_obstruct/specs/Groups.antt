-- The groups of the edges of a block at a node, by the places of the items.
use Rattle.std.specs.Prelude.{◌≡◌, ℕ, ◌<◌, true, ◌==◌, List, [], length, filter, slice_index_or}
use Rattle.permutations.specs.Members.{is_member}
use Rattle.multigraph.specs.Graph.{Multigraph, edge_count, numbers_below}
use Rattle.multigraph.specs.Buckets.{ArePlaces}
use Rattle.graph_theory.specs.Path.{IsPath}
use Rattle.pair_split.specs.Tutte.{Node, components, node_at, node_item, has_in_group}
use Rattle.pair_split.specs.declared.components.What.TheVariants.{Real}
use Rattle.graph_paths.specs.Listing.{note_of}
use Rattle.block_obstruct.specs.Towards.{HaveItem}

-- edge e is in the group of item i of node k
abbrev pub IsInGroup : List Node → ℕ → ℕ → ℕ → Type 0
IsInGroup nodes k e i = (i < length (node_at nodes k).items) × (has_in_group (components nodes) k e (node_item nodes k i).what ≡ true)

-- for each edge of the first x nodes the item of node k is noted that has it in its group
abbrev pub AreNoted : List Node → ℕ → ℕ → List ℕ → Type 0
AreNoted nodes k x notes = (y e : ℕ) → y < x → HaveItem (node_at nodes y).items (Real e) → IsInGroup nodes k e (note_of notes e)

-- for each edge the item of node k is noted that has it in its group
abbrev pub AreOwners : Multigraph → List Node → ℕ → List ℕ → Type 0
AreOwners g nodes k notes = (e : ℕ) → e < edge_count g → IsInGroup nodes k e (note_of notes e)

-- of the first n numbers those that have the note i, in increasing order
abbrev pub noted_with : List ℕ → ℕ → ℕ → List ℕ
noted_with notes n i = filter (λ e. note_of notes e == i) (numbers_below n)

-- the lists hold, for each item of node k, the edges in its group, in increasing order
abbrev pub AreGroupLists : Multigraph → List Node → ℕ → List (List ℕ) → Type 0
AreGroupLists g nodes k lists = (notes : List ℕ) × AreOwners g nodes k notes × ArePlaces notes (edge_count g) (length (node_at nodes k).items) lists

-- the path goes from the one end of item i of node k to the other, along edges of the group of the item
pub record IsItemRoute (g : Multigraph) (nodes : List Node) (k i : ℕ) (along : List ℕ) : Type 0 where
  pub path : IsPath g (node_item nodes k i).a along (node_item nodes k i).b
  pub among : (e : ℕ) → is_member e along ≡ true → has_in_group (components nodes) k e (node_item nodes k i).what ≡ true

-- such a path for each of the first n items of node k
pub record AreItemRoutes (g : Multigraph) (nodes : List Node) (k n : ℕ) (routes : List (List ℕ)) : Type 0 where
  pub each : length routes ≡ n
  pub routes_are : (i : ℕ) → i < n → IsItemRoute g nodes k i (slice_index_or routes i [])
