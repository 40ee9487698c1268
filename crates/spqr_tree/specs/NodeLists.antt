-- The nodes of a tree, by lists of their kinds, their vertices and their items.
use Rattle.std.specs.Prelude.{List, [], ◌∷◌, ℕ, drop, slice_index_or}
use Rattle.pair_split.specs.Tutte.{Node}
use Rattle.pair_split.specs.declared.components.Kind.{Kind}
use Rattle.pair_split.specs.declared.components.Item.{Item}

-- a node for each kind, with the vertices and the items at its place
abbrev pub nodes_from : List Kind → List (List ℕ) → List (List Item) → List Node
nodes_from [] vertices items = []
nodes_from (kind ∷ kinds) vertices items =
    record { kind = kind; vertices = slice_index_or vertices 0 []; items = slice_index_or items 0 [] } ∷ nodes_from kinds (drop 1 vertices) (drop 1 items)
