-- The tree of a block: its Tutte decomposition (Tutte 1966; Di Battista and Tamassia 1996), in a fixed numbering.
use Rattle.std.specs.Prelude.{◌≡◌, ℕ, ◌<◌, Bool, true, ◌==◌, cond, List, [], ◌∷◌, length, map, slice_index_or}
pub use Rattle.choice_lists.specs.Order.{is_before}
use Rattle.permutations.specs.Count.{least}
use Rattle.permutations.specs.Members.{is_member}
use Rattle.multigraph.specs.Graph.{Multigraph, edge_count}
use Rattle.multigraph.specs.Part.{Rises}
use Rattle.pair_split.specs.Skeleton.{is_vertex}
use Rattle.pair_split.specs.Split.{side, skeleton, IsSplit, NoneLinked}
use Rattle.pair_split.specs.declared.components.Kind.{Kind}
use Rattle.pair_split.specs.declared.components.Kind.TheVariants.{S, P, B}
use Rattle.pair_split.specs.declared.components.What.{What}
use Rattle.pair_split.specs.declared.components.What.TheVariants.{Real, Link}
use Rattle.pair_split.specs.declared.components.Piece.{Piece}
use Rattle.pair_split.specs.declared.components.Comp.{Comp}
use Rattle.pair_split.specs.declared.components.Item.{Item}

-- a node of the tree
pub record Node : Type 0 where
  pub kind : Kind
  pub vertices : List ℕ
  pub items : List Item

-- an item without its key
abbrev pub piece_of : Item → Piece
piece_of item = record { a = item.a; b = item.b; what = item.what }

-- the nodes as components
abbrev pub components : List Node → List Comp
components nodes = map (λ node. record { kind = node.kind; items = map piece_of node.items }) nodes

-- node k; one without items where it does not exist
abbrev pub node_at : List Node → ℕ → Node
node_at nodes k = slice_index_or nodes k (record { kind = B; vertices = []; items = [] })

-- item i of node k
abbrev pub node_item : List Node → ℕ → ℕ → Item
node_item nodes k i = slice_index_or (node_at nodes k).items i (record { key = 0; a = 0; b = 0; what = Real 0 })

-- the key of an edge is its number; that of a link of node k is the least edge on its side
abbrev pub key_of : Multigraph → List Node → ℕ → What → ℕ
key_of g nodes k (Real e) = e
key_of g nodes k (Link j) = least (edge_count g) (side (components nodes) k j)

-- whether what is in component k is edge e, or a link with e on its side
abbrev pub has_in_group : List Comp → ℕ → ℕ → What → Bool
has_in_group comps k e (Real f) = f == e
has_in_group comps k e (Link j) = side comps k j e

-- the key of the first of these items that passes the test
abbrev pub first_key : (What → Bool) → List Item → ℕ
first_key passes [] = 0
first_key passes (item ∷ items) = cond (passes item.what) item.key (first_key passes items)

-- the key of the item of node k that is edge e or has e on its side
abbrev pub group : List Node → ℕ → ℕ → ℕ
group nodes k e = first_key (has_in_group (components nodes) k e) (node_at nodes k).items

-- the order of nodes, vertices and items: the vertices of a node are the ends of its items, in increasing order; nodes are in
-- lexicographic order of their vertices; each item has the lesser end first, and its key, and the keys of a node increase
pub record IsInOrder (g : Multigraph) (nodes : List Node) : Type 0 where
  pub vertices : (k v : ℕ) → k < length nodes → is_member v (node_at nodes k).vertices ≡ is_vertex (skeleton (components nodes) k) v
  pub vertices_rise : (k : ℕ) → k < length nodes → Rises (node_at nodes k).vertices
  pub nodes_rise : (k j : ℕ) → k < j → j < length nodes → is_before (node_at nodes k).vertices (node_at nodes j).vertices ≡ true
  pub ends_rise : (k i : ℕ) → i < length (node_at nodes k).items → (node_item nodes k i).a < (node_item nodes k i).b
  pub keys : (k i : ℕ) → i < length (node_at nodes k).items → (node_item nodes k i).key ≡ key_of g nodes k (node_item nodes k i).what
  pub keys_rise : (k : ℕ) → k < length nodes → Rises (map (λ item. item.key) (node_at nodes k).items)

-- the nodes are the tree of the graph: split components of it, with no link from polygon to polygon or from bond to bond, in
-- order
pub record IsTutte (g : Multigraph) (nodes : List Node) : Type 0 where
  pub split : IsSplit g (components nodes)
  pub no_polygons_joined : NoneLinked S (components nodes)
  pub no_bonds_joined : NoneLinked P (components nodes)
  pub in_order : IsInOrder g nodes
