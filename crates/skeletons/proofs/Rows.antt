-- Small blocks with their trees and some of their plane rotation systems.
use Rattle.std.proofs.Common.{ℕ, List, [], ◌∷◌}
use Rattle.multigraph.specs.Graph.{Multigraph}
use Rattle.pair_split.specs.Tutte.{Node}
use Rattle.pair_split.specs.declared.components.Kind.{Kind}
use Rattle.pair_split.specs.declared.components.Kind.TheVariants.{S, P, R}
use Rattle.pair_split.specs.declared.components.What.{What}
use Rattle.pair_split.specs.declared.components.What.TheVariants.{Real, Link}
use Rattle.pair_split.specs.declared.components.Item.{Item}

abbrev pub item : ℕ → ℕ → ℕ → What → Item
item key a b what = record { key = key; a = a; b = b; what = what }

abbrev pub node : Kind → List ℕ → List Item → Node
node kind vertices items = record { kind = kind; vertices = vertices; items = items }

-- the complete graph on four vertices
abbrev pub complete : Multigraph
complete = record { vertex_count = 4; ends = (0, 1) ∷ (0, 2) ∷ (0, 3) ∷ (1, 2) ∷ (1, 3) ∷ (2, 3) ∷ [] }

abbrev pub complete_tree : List Node
complete_tree = node R (0 ∷ 1 ∷ 2 ∷ 3 ∷ []) (item 0 0 1 (Real 0) ∷ item 1 0 2 (Real 1) ∷ item 2 0 3 (Real 2) ∷ item 3 1 2 (Real 3) ∷ item 4 1 3 (Real 4) ∷ item 5 2 3 (Real 5) ∷ []) ∷ []

abbrev pub complete_first : List (List ℕ)
complete_first = (0 ∷ 1 ∷ 2 ∷ []) ∷ (0 ∷ 4 ∷ 3 ∷ []) ∷ (1 ∷ 3 ∷ 5 ∷ []) ∷ (2 ∷ 5 ∷ 4 ∷ []) ∷ []

abbrev pub complete_last : List (List ℕ)
complete_last = (0 ∷ 2 ∷ 1 ∷ []) ∷ (0 ∷ 3 ∷ 4 ∷ []) ∷ (1 ∷ 5 ∷ 3 ∷ []) ∷ (2 ∷ 4 ∷ 5 ∷ []) ∷ []

-- a square with a chord
abbrev pub square : Multigraph
square = record { vertex_count = 4; ends = (0, 1) ∷ (1, 2) ∷ (2, 3) ∷ (3, 0) ∷ (0, 2) ∷ [] }

abbrev pub square_tree : List Node
square_tree = node S (0 ∷ 1 ∷ 2 ∷ []) (item 0 0 1 (Real 0) ∷ item 1 1 2 (Real 1) ∷ item 2 0 2 (Link 1) ∷ [])
    ∷ node P (0 ∷ 2 ∷ []) (item 0 0 2 (Link 0) ∷ item 2 0 2 (Link 2) ∷ item 4 0 2 (Real 4) ∷ [])
    ∷ node S (0 ∷ 2 ∷ 3 ∷ []) (item 0 0 2 (Link 1) ∷ item 2 2 3 (Real 2) ∷ item 3 0 3 (Real 3) ∷ []) ∷ []

abbrev pub square_first : List (List ℕ)
square_first = (0 ∷ 3 ∷ 4 ∷ []) ∷ (0 ∷ 1 ∷ []) ∷ (1 ∷ 4 ∷ 2 ∷ []) ∷ (2 ∷ 3 ∷ []) ∷ []

abbrev pub square_last : List (List ℕ)
square_last = (0 ∷ 4 ∷ 3 ∷ []) ∷ (0 ∷ 1 ∷ []) ∷ (1 ∷ 2 ∷ 4 ∷ []) ∷ (2 ∷ 3 ∷ []) ∷ []

-- three vertices between two others
abbrev pub three_between : Multigraph
three_between = record { vertex_count = 5; ends = (0, 2) ∷ (1, 2) ∷ (0, 3) ∷ (1, 3) ∷ (0, 4) ∷ (1, 4) ∷ [] }

abbrev pub three_between_tree : List Node
three_between_tree = node P (0 ∷ 1 ∷ []) (item 0 0 1 (Link 1) ∷ item 2 0 1 (Link 2) ∷ item 4 0 1 (Link 3) ∷ [])
    ∷ node S (0 ∷ 1 ∷ 2 ∷ []) (item 0 0 2 (Real 0) ∷ item 1 1 2 (Real 1) ∷ item 2 0 1 (Link 0) ∷ [])
    ∷ node S (0 ∷ 1 ∷ 3 ∷ []) (item 0 0 1 (Link 0) ∷ item 2 0 3 (Real 2) ∷ item 3 1 3 (Real 3) ∷ [])
    ∷ node S (0 ∷ 1 ∷ 4 ∷ []) (item 0 0 1 (Link 0) ∷ item 4 0 4 (Real 4) ∷ item 5 1 4 (Real 5) ∷ []) ∷ []

abbrev pub three_between_first : List (List ℕ)
three_between_first = (0 ∷ 2 ∷ 4 ∷ []) ∷ (1 ∷ 5 ∷ 3 ∷ []) ∷ (0 ∷ 1 ∷ []) ∷ (2 ∷ 3 ∷ []) ∷ (4 ∷ 5 ∷ []) ∷ []

abbrev pub three_between_last : List (List ℕ)
three_between_last = (0 ∷ 4 ∷ 2 ∷ []) ∷ (1 ∷ 3 ∷ 5 ∷ []) ∷ (0 ∷ 1 ∷ []) ∷ (2 ∷ 3 ∷ []) ∷ (4 ∷ 5 ∷ []) ∷ []

-- two complete graphs on four vertices that share an edge
abbrev pub sharing : Multigraph
sharing = record { vertex_count = 6; ends = (0, 1) ∷ (0, 2) ∷ (0, 3) ∷ (1, 2) ∷ (1, 3) ∷ (2, 3) ∷ (0, 4) ∷ (0, 5) ∷ (1, 4) ∷ (1, 5) ∷ (4, 5) ∷ [] }

abbrev pub sharing_tree : List Node
sharing_tree = node P (0 ∷ 1 ∷ []) (item 0 0 1 (Real 0) ∷ item 1 0 1 (Link 1) ∷ item 6 0 1 (Link 2) ∷ [])
    ∷ node R (0 ∷ 1 ∷ 2 ∷ 3 ∷ []) (item 0 0 1 (Link 0) ∷ item 1 0 2 (Real 1) ∷ item 2 0 3 (Real 2) ∷ item 3 1 2 (Real 3) ∷ item 4 1 3 (Real 4) ∷ item 5 2 3 (Real 5) ∷ [])
    ∷ node R (0 ∷ 1 ∷ 4 ∷ 5 ∷ []) (item 0 0 1 (Link 0) ∷ item 6 0 4 (Real 6) ∷ item 7 0 5 (Real 7) ∷ item 8 1 4 (Real 8) ∷ item 9 1 5 (Real 9) ∷ item 10 4 5 (Real 10) ∷ []) ∷ []

abbrev pub sharing_first : List (List ℕ)
sharing_first = (0 ∷ 1 ∷ 2 ∷ 6 ∷ 7 ∷ []) ∷ (0 ∷ 9 ∷ 8 ∷ 4 ∷ 3 ∷ []) ∷ (1 ∷ 3 ∷ 5 ∷ []) ∷ (2 ∷ 5 ∷ 4 ∷ []) ∷ (6 ∷ 8 ∷ 10 ∷ []) ∷ (7 ∷ 10 ∷ 9 ∷ []) ∷ []

-- the first one with the second node flipped
abbrev pub sharing_flipped : List (List ℕ)
sharing_flipped = (0 ∷ 2 ∷ 1 ∷ 6 ∷ 7 ∷ []) ∷ (0 ∷ 9 ∷ 8 ∷ 3 ∷ 4 ∷ []) ∷ (1 ∷ 5 ∷ 3 ∷ []) ∷ (2 ∷ 4 ∷ 5 ∷ []) ∷ (6 ∷ 8 ∷ 10 ∷ []) ∷ (7 ∷ 10 ∷ 9 ∷ []) ∷ []

-- the first one with the bond permuted
abbrev pub sharing_permuted : List (List ℕ)
sharing_permuted = (0 ∷ 6 ∷ 7 ∷ 1 ∷ 2 ∷ []) ∷ (0 ∷ 4 ∷ 3 ∷ 9 ∷ 8 ∷ []) ∷ (1 ∷ 3 ∷ 5 ∷ []) ∷ (2 ∷ 5 ∷ 4 ∷ []) ∷ (6 ∷ 8 ∷ 10 ∷ []) ∷ (7 ∷ 10 ∷ 9 ∷ []) ∷ []

abbrev pub sharing_last : List (List ℕ)
sharing_last = (0 ∷ 7 ∷ 6 ∷ 2 ∷ 1 ∷ []) ∷ (0 ∷ 3 ∷ 4 ∷ 8 ∷ 9 ∷ []) ∷ (1 ∷ 5 ∷ 3 ∷ []) ∷ (2 ∷ 4 ∷ 5 ∷ []) ∷ (6 ∷ 10 ∷ 8 ∷ []) ∷ (7 ∷ 9 ∷ 10 ∷ []) ∷ []

-- the same without the edge
abbrev pub joined_pair : Multigraph
joined_pair = record { vertex_count = 6; ends = (0, 2) ∷ (0, 3) ∷ (1, 2) ∷ (1, 3) ∷ (2, 3) ∷ (0, 4) ∷ (0, 5) ∷ (1, 4) ∷ (1, 5) ∷ (4, 5) ∷ [] }

abbrev pub joined_pair_tree : List Node
joined_pair_tree = node R (0 ∷ 1 ∷ 2 ∷ 3 ∷ []) (item 0 0 2 (Real 0) ∷ item 1 0 3 (Real 1) ∷ item 2 1 2 (Real 2) ∷ item 3 1 3 (Real 3) ∷ item 4 2 3 (Real 4) ∷ item 5 0 1 (Link 1) ∷ [])
    ∷ node R (0 ∷ 1 ∷ 4 ∷ 5 ∷ []) (item 0 0 1 (Link 0) ∷ item 5 0 4 (Real 5) ∷ item 6 0 5 (Real 6) ∷ item 7 1 4 (Real 7) ∷ item 8 1 5 (Real 8) ∷ item 9 4 5 (Real 9) ∷ []) ∷ []

abbrev pub joined_pair_first : List (List ℕ)
joined_pair_first = (0 ∷ 1 ∷ 5 ∷ 6 ∷ []) ∷ (2 ∷ 8 ∷ 7 ∷ 3 ∷ []) ∷ (0 ∷ 2 ∷ 4 ∷ []) ∷ (1 ∷ 4 ∷ 3 ∷ []) ∷ (5 ∷ 7 ∷ 9 ∷ []) ∷ (6 ∷ 9 ∷ 8 ∷ []) ∷ []

abbrev pub joined_pair_second : List (List ℕ)
joined_pair_second = (0 ∷ 1 ∷ 6 ∷ 5 ∷ []) ∷ (2 ∷ 7 ∷ 8 ∷ 3 ∷ []) ∷ (0 ∷ 2 ∷ 4 ∷ []) ∷ (1 ∷ 4 ∷ 3 ∷ []) ∷ (5 ∷ 9 ∷ 7 ∷ []) ∷ (6 ∷ 8 ∷ 9 ∷ []) ∷ []

abbrev pub joined_pair_third : List (List ℕ)
joined_pair_third = (0 ∷ 5 ∷ 6 ∷ 1 ∷ []) ∷ (2 ∷ 3 ∷ 8 ∷ 7 ∷ []) ∷ (0 ∷ 4 ∷ 2 ∷ []) ∷ (1 ∷ 3 ∷ 4 ∷ []) ∷ (5 ∷ 7 ∷ 9 ∷ []) ∷ (6 ∷ 9 ∷ 8 ∷ []) ∷ []

abbrev pub joined_pair_last : List (List ℕ)
joined_pair_last = (0 ∷ 6 ∷ 5 ∷ 1 ∷ []) ∷ (2 ∷ 3 ∷ 7 ∷ 8 ∷ []) ∷ (0 ∷ 4 ∷ 2 ∷ []) ∷ (1 ∷ 3 ∷ 4 ∷ []) ∷ (5 ∷ 9 ∷ 7 ∷ []) ∷ (6 ∷ 8 ∷ 9 ∷ []) ∷ []
