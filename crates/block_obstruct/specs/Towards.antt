-- Which item of a node leads towards another node.
use Rattle.std.specs.Prelude.{◌≡◌, ◌≢◌, ℕ, ◌<◌, true, List, length, slice_index_or}
use Rattle.permutations.specs.Members.{is_member}
use Rattle.pair_split.specs.Split.{is_beyond}
use Rattle.pair_split.specs.Tutte.{Node, components, node_at}
use Rattle.pair_split.specs.declared.components.Item.{Item}
use Rattle.pair_split.specs.declared.components.What.{What}
use Rattle.pair_split.specs.declared.components.What.TheVariants.{Real, Link}
use Rattle.graph_paths.specs.Listing.{note_of}

-- item i of the list
abbrev pub item_in : List Item → ℕ → Item
item_in items i = slice_index_or items i (record { key = 0; a = 0; b = 0; what = Real 0 })

-- one of the items is this
abbrev pub HaveItem : List Item → What → Type 0
HaveItem items what = (i : ℕ) × (i < length items) × ((item_in items i).what ≡ what)

-- item i is this
abbrev pub IsItem : List Item → ℕ → What → Type 0
IsItem items i what = (i < length items) × ((item_in items i).what ≡ what)

-- the links lead to numbers below n
abbrev pub LeadBelow : List Item → ℕ → Type 0
LeadBelow items n = (h : ℕ) → HaveItem items (Link h) → h < n

-- item i of node k is a link, and node x is on its side
abbrev pub IsTowards : List Node → ℕ → ℕ → ℕ → Type 0
IsTowards nodes k i x = (j : ℕ) × IsItem (node_at nodes k).items i (Link j) × (is_beyond (components nodes) k j x ≡ true)

-- for each node but k the item of node k that leads towards it is noted
abbrev pub AreTowards : List Node → ℕ → List ℕ → Type 0
AreTowards nodes k notes = (x : ℕ) → x < length nodes → x ≢ k → IsTowards nodes k (note_of notes x) x

-- for each node on the list the item of node k that leads towards it is noted; the nodes that node k has links to are on the
-- list, and so are those that the first q nodes of the list have links to, but for k
pub record AreReached (nodes : List Node) (k : ℕ) (notes list : List ℕ) (q : ℕ) : Type 0 where
  pub towards : (x : ℕ) → is_member x list ≡ true → IsTowards nodes k (note_of notes x) x
  pub near : (h : ℕ) → HaveItem (node_at nodes k).items (Link h) → is_member h list ≡ true
  pub closed : (p h : ℕ) → p < q → p < length list → HaveItem (node_at nodes (slice_index_or list p 0)).items (Link h) → h ≢ k → is_member h list ≡ true
