-- The contraction of an edge, made: the numbers above that of the vertex left out decrease by one, and the edges keep their order.
use Rattle.std.specs.Prelude.{ℕ, ◌-◌, ◌==◌, nat_lt, if◌then◌else◌, List, map, filter, slice_index}
use Rattle.multigraph.specs.Graph.{Multigraph, edge_count, ends_of, numbers_below}
use Rattle.contractions.specs.Contraction.{is_kept}

-- the number of v when y is left out: those above it decrease by one
abbrev pub without_number : ℕ → ℕ → ℕ
without_number y v = (if nat_lt y v then v - 1 else v)

-- the vertex that v becomes when the edge between x and y is contracted: y becomes what x does
abbrev pub contracted_vertex : ℕ → ℕ → ℕ → ℕ
contracted_vertex x y v = without_number y (if v == y then x else v)

-- the edges that stay, in increasing order
abbrev pub kept_edges : Multigraph → ℕ → ℕ → ℕ → List ℕ
kept_edges g e x y = filter (is_kept g e x y) (numbers_below (edge_count g))

-- the edge that edge i of the contraction was
abbrev pub contracted_edge : Multigraph → ℕ → ℕ → ℕ → ℕ → ℕ
contracted_edge g e x y i = slice_index (kept_edges g e x y) i

-- what the two ends of edge f become
abbrev pub contracted_ends : Multigraph → ℕ → ℕ → ℕ → ℕ × ℕ
contracted_ends g x y f = (contracted_vertex x y (ends_of g f).0, contracted_vertex x y (ends_of g f).1)

-- the graph with the edge e between x and y contracted
abbrev pub contracted : Multigraph → ℕ → ℕ → ℕ → Multigraph
contracted g e x y = record { vertex_count = g.vertex_count - 1; ends = map (contracted_ends g x y) (kept_edges g e x y) }
