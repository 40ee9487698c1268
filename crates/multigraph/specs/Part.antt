-- The part of a multigraph that some of its vertices and edges make, under numbers of its own.
use Rattle.std.specs.Prelude.{◌≡◌, ◌≢◌, ℕ, ◌<◌, ◌↔◌, true, List, length, Option, None, Some, slice_index, slice_index_or}
use Rattle.std.specs.List.{Contains}
use Rattle.multigraph.specs.Graph.{Multigraph, edge_count, ends_of, is_end, IsGraph, IsWithinLimits}

-- a graph of its own, and the vertex and the edge of the whole graph that each of its vertices and edges is
pub record GraphPart : Type 0 where
  pub graph : Multigraph
  pub vertices : List ℕ
  pub edges : List ℕ

-- the numbers of the list increase strictly
abbrev pub Rises : List ℕ → Type 0
Rises l = (i j : ℕ) → i < j → j < length l → slice_index l i < slice_index l j

-- the part is a graph within the limits, each of its vertices and edges has a number in the whole graph, and these
-- increase
pub record IsNumbered (part : GraphPart) : Type 0 where
  pub is_graph : IsGraph part.graph
  pub limits : IsWithinLimits part.graph
  pub vertex_each : length part.vertices ≡ part.graph.vertex_count
  pub edge_each : length part.edges ≡ edge_count part.graph
  pub vertices_rise : Rises part.vertices
  pub edges_rise : Rises part.edges

-- the answer is Some i exactly where x is at place i of the list, and None exactly where x is not in the list
pub record IsPlace (list : List ℕ) (x : ℕ) (answer : Option ℕ) : Type 0 where
  pub some : (i : ℕ) → (answer ≡ Some i) ↔ ((i < length list) × (slice_index list i ≡ x))
  pub none : (answer ≡ None) ↔ ((i : ℕ) → i < length list → slice_index list i ≢ x)

-- v is an end of one of these edges, which is one of g
pub record IsEndOf (g : Multigraph) (edges : List ℕ) (v : ℕ) : Type 0 where
  pub edge : ℕ
  pub among : Contains edges edge
  pub is_edge : edge < edge_count g
  pub ends_there : is_end g v edge ≡ true

-- the vertices contain all ends of these edges
abbrev pub HoldEnds : Multigraph → List ℕ → List ℕ → Type 0
HoldEnds g edges vertices = (v : ℕ) → IsEndOf g edges v → Contains vertices v

-- the vertices are exactly the ends of these edges
abbrev pub AreEnds : Multigraph → List ℕ → List ℕ → Type 0
AreEnds g edges vertices = (v : ℕ) → Contains vertices v ↔ IsEndOf g edges v

-- for each of these edges in order, the places of its first and its second end among the vertices
pub record AreInnerEnds (g : Multigraph) (edges vertices : List ℕ) (ends : List (ℕ × ℕ)) : Type 0 where
  pub each : length ends ≡ length edges
  pub first_in : (k : ℕ) → k < length edges → (slice_index_or ends k (0, 0)).0 < length vertices
  pub first : (k : ℕ) → k < length edges → slice_index vertices (slice_index_or ends k (0, 0)).0 ≡ (ends_of g (slice_index edges k)).0
  pub second_in : (k : ℕ) → k < length edges → (slice_index_or ends k (0, 0)).1 < length vertices
  pub second : (k : ℕ) → k < length edges → slice_index vertices (slice_index_or ends k (0, 0)).1 ≡ (ends_of g (slice_index edges k)).1

-- the part of g that these edges make: its edges are these, in order; its vertices are exactly their ends, increasing; and each
-- edge has the ends that it has in g, the first as the first
pub record IsPart (g : Multigraph) (edges : List ℕ) (part : GraphPart) : Type 0 where
  pub edges_are : part.edges ≡ edges
  pub numbered : IsNumbered part
  pub vertices : AreEnds g edges part.vertices
  pub ends : AreInnerEnds g edges part.vertices part.graph.ends

-- the part of g that these vertices make with these edges: its vertices and its edges are these, in order, and each edge has the
-- ends that it has in g, the first as the first. A vertex may have no edge.
pub record IsPartOn (g : Multigraph) (vertices edges : List ℕ) (part : GraphPart) : Type 0 where
  pub vertices_are : part.vertices ≡ vertices
  pub edges_are : part.edges ≡ edges
  pub numbered : IsNumbered part
  pub ends : AreInnerEnds g edges vertices part.graph.ends

-- the part that edges make is the part on their ends
abbrev pub IsPartOnEnds : Type 0
IsPartOnEnds =
    (g : Multigraph) (edges : List ℕ) (part : GraphPart)
    → IsPart g edges part ↔ (IsPartOn g part.vertices edges part × AreEnds g edges part.vertices)
