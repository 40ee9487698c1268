-- State of a loop: components in order from a root, the least edge beyond each link away from it, and the keys of items.
use Rattle.std.specs.Prelude.{◌≡◌, ◌≢◌, ℕ, ◌<◌, ◌≤◌, ◌⊎◌, Bool, true, false, ◌==◌, cond, List, [], ◌∷◌, ◌++◌, length, slice_index_or}
use Rattle.permutations.specs.Count.{least}
use Rattle.permutations.specs.Members.{is_member, is_distinct}
use Rattle.multigraph.specs.Graph.{Multigraph, edge_count}
use Rattle.pair_split.specs.Split.{is_beyond, side, LinksTo, IsTree}
use Rattle.pair_split.specs.Tutte.{Node, node_at}
use Rattle.pair_split.specs.declared.components.Item.{Item}
use Rattle.pair_split.specs.declared.components.What.{What}
use Rattle.pair_split.specs.declared.components.What.TheVariants.{Real, Link}
use Rattle.pair_split.specs.declared.components.Piece.{Piece}
use Rattle.pair_split.specs.declared.components.Comp.{Comp}
use Rattle.spqr_tree.specs.Absent.{absent}

-- piece i of the list
abbrev pub piece_at : List Piece → ℕ → Piece
piece_at pieces i = slice_index_or pieces i (record { a = 0; b = 0; what = Real 0 })

-- item i of the list
abbrev pub nth_item : List Item → ℕ → Item
nth_item items i = slice_index_or items i (record { key = 0; a = 0; b = 0; what = Real 0 })

-- the parent of component k; absent where it has none
abbrev pub parent_at : List ℕ → ℕ → ℕ
parent_at parents k = slice_index_or parents k 0

-- the least edge that is noted for component k
abbrev pub least_at : List ℕ → ℕ → ℕ
least_at least k = slice_index_or least k 0

-- whether it is a link to component k
abbrev pub leads_to : ℕ → What → Bool
leads_to k (Real e) = false
leads_to k (Link j) = j == k

-- the key of an edge is its number, that of the link to the parent is 0, and that of another link is noted
abbrev pub link_key : ℕ → List ℕ → What → ℕ
link_key parent least (Real e) = e
link_key parent least (Link j) = cond (j == parent) 0 (least_at least j)

-- a piece with its key
abbrev pub with_key : ℕ → List ℕ → Piece → Item
with_key parent least piece = record { key = link_key parent least piece.what; a = piece.a; b = piece.b; what = piece.what }

-- the links of the pieces lead to numbers below n
abbrev pub AreWithin : List Piece → ℕ → Type 0
AreWithin pieces n = (i j : ℕ) → i < length pieces → (piece_at pieces i).what ≡ Link j → j < n

-- no two pieces have the same key
abbrev pub AreApart : ℕ → List ℕ → List Piece → Type 0
AreApart parent least pieces =
    (i h : ℕ) → i < length pieces → h < length pieces → link_key parent least (piece_at pieces i).what ≡ link_key parent least (piece_at pieces h).what → i ≡ h

-- the component to which a link leads, unless it is the parent
abbrev pub child : ℕ → What → List ℕ
child parent (Real e) = []
child parent (Link j) = cond (j == parent) [] (j ∷ [])

-- those of the pieces, in order
abbrev pub children : ℕ → List Piece → List ℕ
children parent [] = []
children parent (piece ∷ pieces) = child parent piece.what ++ children parent pieces

-- the children of component k, whose parent is given, are put on the list, and noted as such
pub record AddsChildren (k parent : ℕ) (pieces : List Piece) (parents order next_parents next_order : List ℕ) : Type 0 where
  pub number : length next_parents ≡ length parents
  pub listed : next_order ≡ order ++ children parent pieces
  pub noted : (x : ℕ) → parent_at next_parents x ≡ cond (is_member x (children parent pieces)) k (parent_at parents x)

-- a list of components, with the root of the tree, and the parents that were noted for them; the children of
-- the first i of the list are on it
pub record IsOrder (comps : List Comp) (t : IsTree comps) (parents order : List ℕ) (i : ℕ) : Type 0 where
  pub places : length parents ≡ length comps
  pub root : is_member t.root order ≡ true
  pub none : parent_at parents t.root ≡ absent
  pub distinct : is_distinct order ≡ true
  pub within : (x : ℕ) → is_member x order ≡ true → x < length comps
  pub parent : (x : ℕ) → is_member x order ≡ true → x ≢ t.root → parent_at parents x ≡ t.parent x
  pub before : (x : ℕ) → is_member x order ≡ true → x ≢ t.root → (h : ℕ) × (h < i) × (h < length order) × (slice_index_or order h 0 ≡ t.parent x)
  pub after : (q j : ℕ) → q < i → q < length order → j < length comps → j ≢ t.root → t.parent j ≡ slice_index_or order q 0 → (h : ℕ) × (q < h) × (h < length order) × (slice_index_or order h 0 ≡ j)

-- the parents, and all components in an order in which each is after its parent, where this component is the root
pub record AreOrdered (comps : List Comp) (root : ℕ) (parents order : List ℕ) : Type 0 where
  pub places : length parents ≡ length comps
  pub within : (q : ℕ) → q < length order → slice_index_or order q 0 < length comps
  pub all : (k : ℕ) → k < length comps → (q : ℕ) × (q < length order) × (slice_index_or order q 0 ≡ k)
  pub down : (k j : ℕ) → LinksTo comps k j → parent_at parents k ≢ j → parent_at parents j ≡ k
  pub after : (q j : ℕ) → q < length order → LinksTo comps (slice_index_or order q 0) j → parent_at parents (slice_index_or order q 0) ≢ j
      → (h : ℕ) × (q < h) × (h < length order) × (slice_index_or order h 0 ≡ j)
  pub up : (k j : ℕ) → LinksTo comps k j → parent_at parents k ≡ j → is_beyond comps k j root ≡ true

-- the least of the keys of the first n pieces but for the link to the parent, and the bound where none is below it
pub record IsLeastKey (pieces : List Piece) (n parent : ℕ) (least : List ℕ) (bound : ℕ) (key : ℕ) : Type 0 where
  pub lower : (i : ℕ) → i < n → (piece_at pieces i).what ≢ Link parent → key ≤ link_key parent least (piece_at pieces i).what
  pub met : (key ≡ bound) ⊎ ((i : ℕ) × (i < n) × ((piece_at pieces i).what ≢ Link parent) × (key ≡ link_key parent least (piece_at pieces i).what))

-- the least edge beyond each link to a child is noted for the child, where it is at place i of the order or after it
abbrev pub IsNoted : Multigraph → List Comp → List ℕ → List ℕ → List ℕ → ℕ → Type 0
IsNoted g comps parents order noted i =
    (k j q : ℕ) → LinksTo comps k j → parent_at parents k ≢ j → i ≤ q → q < length order → slice_index_or order q 0 ≡ j → least_at noted j ≡ least (edge_count g) (side comps k j)

-- the parents of the components, from one that has edge 0, and the least edge beyond each link to a child
pub record IsRooted (g : Multigraph) (comps : List Comp) (parents noted : List ℕ) : Type 0 where
  pub parent_places : length parents ≡ length comps
  pub least_places : length noted ≡ length comps
  pub up : (k j : ℕ) → LinksTo comps k j → parent_at parents k ≡ j → side comps k j 0 ≡ true
  pub down : (k j : ℕ) → LinksTo comps k j → parent_at parents k ≢ j → least_at noted j ≡ least (edge_count g) (side comps k j)

-- the items of the nodes have the keys that follow from the parents and the least edges that were noted
abbrev pub HaveKeys : List ℕ → List ℕ → List Node → Type 0
HaveKeys parents noted nodes = (k i : ℕ) → k < length nodes → i < length (node_at nodes k).items → (nth_item (node_at nodes k).items i).key ≡ link_key (parent_at parents k) noted (nth_item (node_at nodes k).items i).what
