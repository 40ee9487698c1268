-- Families, skeletons and graphs: the same edges viewed in three ways.
use Rattle.std.specs.Prelude.{ℕ, List, map}
use Rattle.multigraph.specs.Graph.{Multigraph, edge_count, ends_of, numbers_below}
use Rattle.pair_split.specs.Family.{Entry}

-- the two ends of an entry
abbrev pub entry_ends : Entry → ℕ × ℕ
entry_ends entry = (entry.first, entry.second)

-- the skeleton of a family: the ends of its entries
abbrev pub family_skeleton : List Entry → List (ℕ × ℕ)
family_skeleton entries = map entry_ends entries

-- edge e of a graph, under its number
abbrev pub graph_entry : Multigraph → ℕ → Entry
graph_entry g e = record { name = e; first = (ends_of g e).0; second = (ends_of g e).1 }

-- the family of a graph: its edges, each under its number
abbrev pub graph_family : Multigraph → List Entry
graph_family g = map (graph_entry g) (numbers_below (edge_count g))
