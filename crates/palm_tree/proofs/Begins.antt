-- A dart begins at a vertex.
use Rattle.std.proofs.Common.{ℕ, ◌<◌, Bool, true, false, if◌then◌else◌, get_or}
use Rattle.multigraph.specs.Graph.{Multigraph, edge_count, IsGraph}
use Rattle.search_forest.specs.Forest.{ForestState, is_tree_edge, upper_end}
use Rattle.search_forest.specs.Searching.{IsOver}
use Rattle.search_forest.proofs.Grown.{lower-in, upper-in}
use Rattle.palm_tree.specs.Growing.{begin_of}

-- a dart begins at a vertex
pub begin-in : (g : Multigraph) → IsGraph g → (s : ForestState) → IsOver g s → (e : ℕ) → e < edge_count g → begin_of g s e < g.vertex_count
begin-in g gg s o e l = cases (is_tree_edge s e)
  where
    cases : (b : Bool) → (if b then upper_end g s e else get_or s.lower e 0) < g.vertex_count
    cases true = upper-in g gg s o e l
    cases false = lower-in g gg s o e l
