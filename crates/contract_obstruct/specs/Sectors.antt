-- Sectors of the cyclic order around the merged vertex, by their places in the cyclic order.
use Rattle.std.specs.Prelude.{◌≡◌, ℕ, ◌-◌, ◌<◌, ◌||◌, true, List, take, drop}
use Rattle.multigraph.specs.Graph.{edge_count, is_end, other_end}
use Rattle.contractions.specs.Contraction.{are_adjacent}
use Rattle.contractions.specs.declared.level.Level.{Level}
use Rattle.contractions.specs.Level.{edge_before}

-- the members from place i on, before place j
abbrev pub segment : List ℕ → ℕ → ℕ → List ℕ
segment l i j = take (j - i) (drop i l)

-- edge i of the contraction was an edge of the graph at x or at y
pub record LeadsOut (level : Level) (i : ℕ) : Type 0 where
  pub is_edge : edge_before level i < edge_count level.graph
  pub leaves : (is_end level.graph level.x (edge_before level i) || is_end level.graph level.y (edge_before level i)) ≡ true

-- the edge leads from x to a common neighbour of x and y
abbrev pub IsCommonEdge : Level → ℕ → Type 0
IsCommonEdge level i = (is_end level.graph level.x (edge_before level i) ≡ true) × (are_adjacent level.graph level.y (other_end level.graph (edge_before level i) level.x) ≡ true)
