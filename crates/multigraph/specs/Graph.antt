-- Multigraphs without loops: parallel edges are allowed. Vertices and edges are numbered from 0.
use Rattle.std.specs.Prelude.{ℕ, zero, suc, ◌<◌, ◌≤◌, ◌≢◌, Bool, ◌&&◌, ◌||◌, ◌==◌, nat_lt, if◌then◌else◌, List, [], ◌∷◌, ◌++◌, length, filter, slice_index_or}

-- a multigraph: how many vertices it has, and the first and the second end of each edge, in order of the edges
pub record Multigraph : Type 0 where
  pub vertex_count : ℕ
  pub ends : List (ℕ × ℕ)

-- how many edges it has
abbrev pub edge_count : Multigraph → ℕ
edge_count g = length g.ends

-- the two ends of edge e
abbrev pub ends_of : Multigraph → ℕ → ℕ × ℕ
ends_of g e = slice_index_or g.ends e (0, 0)

-- whether v is an end of edge e
abbrev pub is_end : Multigraph → ℕ → ℕ → Bool
is_end g v e = ((ends_of g e).0 == v) || ((ends_of g e).1 == v)

-- whether e is an edge, and at v
abbrev pub is_edge_at : Multigraph → ℕ → ℕ → Bool
is_edge_at g v e = nat_lt e (edge_count g) && is_end g v e

-- the numbers below n, increasing
abbrev pub numbers_below : ℕ → List ℕ
numbers_below zero = []
numbers_below (suc n) = numbers_below n ++ n ∷ []

-- the edges at vertex v, increasing
abbrev pub incident_edges : Multigraph → ℕ → List ℕ
incident_edges g v = filter (is_end g v) (numbers_below (edge_count g))

-- the end of edge e that is not v, where v is one of its ends
abbrev pub other_end : Multigraph → ℕ → ℕ → ℕ
other_end g e v = (if (ends_of g e).0 == v then (ends_of g e).1 else (ends_of g e).0)

-- the limits on what the program takes
abbrev pub max_vertices : ℕ
max_vertices = 20000

abbrev pub max_edges : ℕ
max_edges = 50000

-- the most darts that such a graph has, two for each edge
abbrev pub max_darts : ℕ
max_darts = 100000

-- a multigraph that is small enough for the program
pub record IsWithinLimits (g : Multigraph) : Type 0 where
  pub few_vertices : g.vertex_count ≤ max_vertices
  pub few_edges : edge_count g ≤ max_edges

-- a multigraph without loops, all ends among its vertices, of any size
pub record IsGraph (g : Multigraph) : Type 0 where
  pub first_in : (e : ℕ) → e < edge_count g → (ends_of g e).0 < g.vertex_count
  pub second_in : (e : ℕ) → e < edge_count g → (ends_of g e).1 < g.vertex_count
  pub no_loop : (e : ℕ) → e < edge_count g → (ends_of g e).0 ≢ (ends_of g e).1
