-- What is proved of triconnected graphs and of contracting their edges, as statements.
use Rattle.std.specs.Prelude.{◌≡◌, ℕ, ◌<◌, ◌≤◌, ◌↔◌, ◌⊎◌, true, length}
use Rattle.permutations.specs.Count.{some}
use Rattle.multigraph.specs.Graph.{Multigraph, edge_count, is_end, other_end, IsGraph, incident_edges}
use Rattle.graph_theory.specs.Triconnected.{IsSimple, IsTriconnected}
use Rattle.contractions.specs.Contraction.{IsContractible, IsContraction, ContractibleEdge, is_contractible, common_count, is_private}
use Rattle.contractions.specs.Contracted.{contracted, contracted_edge, contracted_vertex}

-- each vertex of a triconnected graph has at least three edges
abbrev pub DegreeThree : Type 0
DegreeThree = (g : Multigraph) → IsGraph g → IsTriconnected g → (v : ℕ) → v < g.vertex_count → 3 ≤ length (incident_edges g v)

-- a triconnected graph has an edge that may be contracted
abbrev pub ContractibleEdgeExists : Type 0
ContractibleEdgeExists = (g : Multigraph) → IsGraph g → IsTriconnected g → ContractibleEdge g

-- in a triconnected graph the edge between x and y may be contracted exactly where it passes the test
abbrev pub ContractibleIsTested : Type 0
ContractibleIsTested = (g : Multigraph) → IsGraph g → IsTriconnected g → (x y : ℕ) → (is_contractible g x y ≡ true) ↔ IsContractible g x y

-- an edge that may be contracted may be so with its ends named in the other order
abbrev pub ContractibleEitherWay : Type 0
ContractibleEitherWay = (g : Multigraph) (x y : ℕ) → IsContractible g x y → IsContractible g y x

-- a contraction of a simple graph is a graph
abbrev pub ContractionIsGraph : Type 0
ContractionIsGraph = (g h : Multigraph) → IsGraph g → IsSimple g → (e x y : ℕ) (edge vertex : ℕ → ℕ) → IsContraction g h e x y edge vertex → IsGraph h

-- where the graph is triconnected, has at least five vertices, and the edge may be contracted, it is triconnected
abbrev pub ContractionIsTriconnected : Type 0
ContractionIsTriconnected = (g h : Multigraph) → IsGraph g → IsTriconnected g → (e x y : ℕ) (edge vertex : ℕ → ℕ) → IsContraction g h e x y edge vertex
    → 5 ≤ g.vertex_count → IsContractible g x y → IsTriconnected h

-- each edge of a graph has a contraction: the one that is made
abbrev pub ContractionIsMade : Type 0
ContractionIsMade = (g : Multigraph) → IsGraph g → (e x y : ℕ) → e < edge_count g → is_end g x e ≡ true → other_end g e x ≡ y
    → IsContraction g (contracted g e x y) e x y (contracted_edge g e x y) (contracted_vertex x y)

-- in a triconnected graph of at least five vertices an edge whose ends have at most two common neighbours has at one end an
-- edge that is private to it
abbrev pub OneEndHasPrivate : Type 0
OneEndHasPrivate = (g : Multigraph) → IsGraph g → IsTriconnected g → 5 ≤ g.vertex_count → (e x y : ℕ) → e < edge_count g → is_end g x e ≡ true → other_end g e x ≡ y → common_count g x y ≤ 2
    → (some (edge_count g) (is_private g e x y) ≡ true) ⊎ (some (edge_count g) (is_private g e y x) ≡ true)
