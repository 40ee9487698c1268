-- The fault for which no graph is built: the first in the order too many vertices, too many edges, then the least faulty edge.
use Rattle.std.specs.Prelude.{◌≡◌, ℕ, ◌<◌, ◌≤◌, ◌≢◌, ◌⊎◌, List}
use Rattle.multigraph.specs.Graph.{Multigraph, edge_count, ends_of, max_vertices, max_edges, IsWithinLimits}
use Rattle.multigraph.specs.declared.faults.BuildFault.{BuildFault}
use Rattle.multigraph.specs.declared.faults.BuildFault.TheVariants.{TooManyVertices, TooManyEdges, EndOut, Loop, Memory}

-- the multigraph of n vertices and these ends
abbrev pub multigraph_of : ℕ → List (ℕ × ℕ) → Multigraph
multigraph_of n ends = record { vertex_count = n; ends = ends }

-- edge e is sound: its ends are two different vertices
pub record IsSound (g : Multigraph) (e : ℕ) : Type 0 where
  pub first_in : (ends_of g e).0 < g.vertex_count
  pub second_in : (ends_of g e).1 < g.vertex_count
  pub no_loop : (ends_of g e).0 ≢ (ends_of g e).1

-- the multigraph is within the limits, e is one of its edges, and every edge before it is sound
pub record IsReached (g : Multigraph) (e : ℕ) : Type 0 where
  pub limits : IsWithinLimits g
  pub is_edge : e < edge_count g
  pub sound_before : (k : ℕ) → k < e → IsSound g k

-- an end of edge e is not a vertex
abbrev pub HasEndOut : Multigraph → ℕ → Type 0
HasEndOut g e = (g.vertex_count ≤ (ends_of g e).0) ⊎ (g.vertex_count ≤ (ends_of g e).1)

-- the ends of edge e are the same vertex
abbrev pub IsLoop : Multigraph → ℕ → Type 0
IsLoop g e = ((ends_of g e).0 < g.vertex_count) × ((ends_of g e).0 ≡ (ends_of g e).1)

-- the fault is the first one of the multigraph; running out of memory is not a fault of it, and may happen with any multigraph
abbrev pub IsFirstFault : Multigraph → BuildFault → Type 0
IsFirstFault g (TooManyVertices n) = (n ≡ g.vertex_count) × (max_vertices < n)
IsFirstFault g (TooManyEdges m) = (m ≡ edge_count g) × (max_edges < m) × (g.vertex_count ≤ max_vertices)
IsFirstFault g (EndOut e) = IsReached g e × HasEndOut g e
IsFirstFault g (Loop e) = IsReached g e × IsLoop g e
IsFirstFault g Memory = Unit {0}
