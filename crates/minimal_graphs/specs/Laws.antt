-- What is proved of triconnected graphs without an edge, as statements.
use Rattle.std.specs.Prelude.{◌≡◌, ℕ, ◌<◌, true, not, List, ◌++◌, length, filter}
use Rattle.multigraph.specs.Graph.{Multigraph, IsGraph, edge_count, numbers_below}
use Rattle.multigraph.specs.Part.{GraphPart, IsPart}
use Rattle.graph_theory.specs.Block.{IsOneBlock}
use Rattle.graph_theory.specs.Triconnected.{IsTriconnected}
use Rattle.faces.specs.Euler.{IsPlaneSystem}
use Rattle.kuratowski.specs.Subdivision.{branch_at, pair_at, pattern_edges}
use Rattle.kuratowski.specs.declared.subdivision.Pattern.{Pattern}
use Rattle.minimal_graphs.specs.Whole.{all_but, are_joined, is_far, first_side, IsWhole, IsPattern}

-- the part of g that all edges but e make has a plane rotation system
abbrev pub IsPlaneWithout : Multigraph → ℕ → Type 0
IsPlaneWithout g e = (part : GraphPart) × IsPart g (all_but (edge_count g) e) part × ((r : List (List ℕ)) × IsPlaneSystem part.graph r)

-- the part of a triconnected graph that all edges but one make is one block
abbrev pub OneEdgeLessIsBlock : Type 0
OneEdgeLessIsBlock = (g : Multigraph) → IsGraph g → IsTriconnected g → (e : ℕ) → e < edge_count g → (part : GraphPart) → IsPart g (all_but (edge_count g) e) part → IsOneBlock part.graph

-- a triconnected graph that has no plane rotation system, but has one when any edge is left out, is K5 or K3,3
abbrev pub MinimalIsPattern : Type 0
MinimalIsPattern = (g : Multigraph) → IsGraph g → IsTriconnected g → ((r : List (List ℕ)) → IsPlaneSystem g r → ⊥) → ((e : ℕ) → e < edge_count g → IsPlaneWithout g e) → IsPattern g

-- the vertices that no edge joins with the vertex 0, as many as the first side of the pattern has, and then the others, are the
-- branch vertices; and an edge joins each two that a path joins
abbrev pub SidesAreBranches : Type 0
SidesAreBranches =
    (g : Multigraph) → IsGraph g → (kind : Pattern) (branch : List ℕ) (paths : List (List ℕ)) → IsWhole g kind branch paths → 0 < g.vertex_count
    → (filter (is_far g) (numbers_below g.vertex_count) ++ filter (λ v. not (is_far g v)) (numbers_below g.vertex_count) ≡ branch)
    × (length (filter (is_far g) (numbers_below g.vertex_count)) ≡ first_side kind)
    × ((k : ℕ) → k < length (pattern_edges kind) → are_joined g (branch_at branch (pair_at kind k).0) (branch_at branch (pair_at kind k).1) ≡ true)
