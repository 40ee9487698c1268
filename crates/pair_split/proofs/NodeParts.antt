-- The components of a list of nodes: their kinds and pieces are those of the nodes.
use Rattle.std.proofs.Common.{◌≡◌, ℕ, zero, suc, ◌<◌, List, [], ◌∷◌, length, map, slice_index_or, refl, ap, ◌∙◌}
use Rattle.std.proofs.lemmas.List.{get_or-map}
use Rattle.pair_split.specs.Split.{items_of, item_at, component_at}
use Rattle.pair_split.specs.Tutte.{Node, node_at, node_item, components, piece_of}
use Rattle.pair_split.specs.declared.components.Piece.{Piece}
use Rattle.pair_split.specs.declared.components.What.TheVariants.{Real}

-- the pieces of component k are those of the items of node k
pub node-pieces : (nodes : List Node) (k : ℕ) → items_of (components nodes) k ≡ map piece_of (node_at nodes k).items
node-pieces [] k = refl
node-pieces (node ∷ nodes) zero = refl
node-pieces (node ∷ nodes) (suc k) = node-pieces nodes k

-- piece i of component k is that of item i of node k
pub node-piece : (nodes : List Node) (k i : ℕ) → i < length (node_at nodes k).items → item_at (components nodes) k i ≡ piece_of (node_item nodes k i)
node-piece nodes k i l =
    ap (λ (pieces : List Piece). slice_index_or pieces i (record { a = 0; b = 0; what = Real 0 })) (node-pieces nodes k)
    ∙ get_or-map piece_of (node_at nodes k).items i (record { key = 0; a = 0; b = 0; what = Real 0 }) (record { a = 0; b = 0; what = Real 0 }) l

-- the kind of a component is that of the node
pub node-kind : (nodes : List Node) (k : ℕ) → (component_at (components nodes) k).kind ≡ (node_at nodes k).kind
node-kind [] k = refl
node-kind (node ∷ nodes) zero = refl
node-kind (node ∷ nodes) (suc k) = node-kind nodes k
