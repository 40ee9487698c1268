-- What follows each item of each node around its ends, as a table: a list for each node, with two places for each of its items.
use Rattle.std.specs.Prelude.{◌≡◌, ℕ, ◌+◌, ◌*◌, ◌<◌, ◌==◌, if◌then◌else◌, true, List, [], length, slice_index_or}
use Rattle.permutations.specs.Cyclic.{successor, predecessor}
use Rattle.permutations.specs.Members.{is_member, place_of}
use Rattle.multigraph.specs.Graph.{Multigraph, ends_of}
use Rattle.rotations.specs.Rotation.{order_at}
use Rattle.pair_split.specs.Tutte.{Node, node_at, node_item}
use Rattle.skeletons.specs.Items.{ends_item}
use Rattle.skeletons.specs.Families.{system_at, AreSkeletonSystems}

-- v is an end of item i of node k
pub record IsItemEnd (nodes : List Node) (k i v : ℕ) : Type 0 where
  pub is_node : k < length nodes
  pub is_item : i < length (node_at nodes k).items
  pub end : ends_item v (node_item nodes k i) ≡ true

-- the place of item i of node k around v, one of its ends
abbrev pub item_place : List Node → ℕ → ℕ → ℕ → ℕ
item_place nodes k i v = (if (node_item nodes k i).a == v then 2 * i else 2 * i + 1)

-- the list of node k
abbrev pub row_at : List (List ℕ) → ℕ → List ℕ
row_at table k = slice_index_or table k []

-- the item that follows item i of node k around v in the family
abbrev pub follower : List Node → List (List (List ℕ)) → ℕ → ℕ → ℕ → ℕ
follower nodes family k i v = successor (order_at (system_at family k) (place_of (node_at nodes k).vertices v)) i

-- the table has it
abbrev pub HasFollower : List Node → List (List (List ℕ)) → List (List ℕ) → ℕ → ℕ → ℕ → Type 0
HasFollower nodes family table k i v = slice_index_or (row_at table k) (item_place nodes k i v) 0 ≡ follower nodes family k i v

-- for all items
abbrev pub HasFollowers : List Node → List (List (List ℕ)) → List (List ℕ) → Type 0
HasFollowers nodes family table = (k i v : ℕ) → IsItemEnd nodes k i v → HasFollower nodes family table k i v

-- the table has all places
pub record IsTable (nodes : List Node) (table : List (List ℕ)) : Type 0 where
  pub each : length table ≡ length nodes
  pub places : (k : ℕ) → k < length nodes → length (row_at table k) ≡ 2 * length (node_at nodes k).items

-- the family has a rotation system for the skeleton of each node, and the table has what follows there
pub record IsTableOf (nodes : List Node) (table : List (List ℕ)) (family : List (List (List ℕ))) : Type 0 where
  pub systems : AreSkeletonSystems nodes family
  pub followers : HasFollowers nodes family table

-- the list has what follows the items of node k in a rotation system of its skeleton
pub record IsRow (nodes : List Node) (k : ℕ) (s : List (List ℕ)) (row : List ℕ) : Type 0 where
  pub places : length row ≡ 2 * length (node_at nodes k).items
  pub follows : (i v : ℕ) → i < length (node_at nodes k).items → ends_item v (node_item nodes k i) ≡ true → slice_index_or row (item_place nodes k i v) 0 ≡ successor (order_at s (place_of (node_at nodes k).vertices v)) i

-- the list has what follows the first n edges of a graph around their first and second ends
pub record HasNext (g : Multigraph) (s : List (List ℕ)) (n : ℕ) (row : List ℕ) : Type 0 where
  pub places : length row ≡ 2 * n
  pub first : (i : ℕ) → i < n → slice_index_or row (2 * i) 0 ≡ successor (order_at s (ends_of g i).0) i
  pub second : (i : ℕ) → i < n → slice_index_or row (2 * i + 1) 0 ≡ successor (order_at s (ends_of g i).1) i

-- the list has for each number of a cyclic order the one that follows it, and the one that it follows
pub record HasTurns (numbers row : List ℕ) : Type 0 where
  pub places : length row ≡ 2 * length numbers
  pub next : (x : ℕ) → is_member x numbers ≡ true → slice_index_or row (2 * x) 0 ≡ successor numbers x
  pub previous : (x : ℕ) → is_member x numbers ≡ true → slice_index_or row (2 * x + 1) 0 ≡ predecessor numbers x
