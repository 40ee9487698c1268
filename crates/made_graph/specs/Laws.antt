-- What is proved of graphs that are made from a number, as statements.
use Rattle.std.specs.Prelude.{◌≡◌, ◌≢◌, true, ℕ, ◌+◌, ◌<◌, ◌≤◌, true, List}
use Rattle.multigraph.specs.Graph.{Multigraph, edge_count, is_end, IsGraph}
use Rattle.graph_theory.specs.Block.{IsOneBlock}
use Rattle.rotations.specs.Rotation.{IsRotationSystem}
use Rattle.faces.specs.Euler.{IsPlane}
use Rattle.made_graph.specs.Made.{subdivided, doubled, with_path, with_tetrahedron, made}

-- a graph of one block with a plane rotation system
pub record IsPlanarBlock (g : Multigraph) : Type 0 where
  pub is_graph : IsGraph g
  pub one_block : IsOneBlock g
  pub system : List (List ℕ)
  pub is_system : IsRotationSystem g system
  pub plane : IsPlane g system

-- an operation on an edge leads from a planar block of two edges or more to one. (One edge alone is a block, and subdivided it is
-- none)
abbrev pub KeepsPlanarBlocks : (Multigraph → ℕ → Multigraph) → Type 0
KeepsPlanarBlocks operation = (g : Multigraph) → IsPlanarBlock g → 2 ≤ edge_count g → (e : ℕ) → e < edge_count g → IsPlanarBlock (operation g e)

-- so does each of the operations
abbrev pub SubdividingKeeps : Type 0
SubdividingKeeps = KeepsPlanarBlocks subdivided

abbrev pub DoublingKeeps : Type 0
DoublingKeeps = KeepsPlanarBlocks doubled

abbrev pub PathKeeps : Type 0
PathKeeps = KeepsPlanarBlocks with_path

abbrev pub TetrahedronKeeps : Type 0
TetrahedronKeeps = KeepsPlanarBlocks with_tetrahedron

-- the graph has at least n edges, at most four more, and more edges than vertices, by two at least
pub record IsOfSize (n : ℕ) (g : Multigraph) : Type 0 where
  pub edges_reach : n ≤ edge_count g
  pub edges_end : edge_count g ≤ n + 4
  pub vertices_fewer : g.vertex_count + 2 ≤ edge_count g

-- three different edges with a common end
pub record HasFork (g : Multigraph) : Type 0 where
  pub vertex : ℕ
  pub first : ℕ
  pub second : ℕ
  pub third : ℕ
  pub first_in : first < edge_count g
  pub second_in : second < edge_count g
  pub third_in : third < edge_count g
  pub first_there : is_end g vertex first ≡ true
  pub second_there : is_end g vertex second ≡ true
  pub third_there : is_end g vertex third ≡ true
  pub first_second : first ≢ second
  pub first_third : first ≢ third
  pub second_third : second ≢ third

-- made graphs are planar blocks
abbrev pub MadeIsPlanarBlock : Type 0
MadeIsPlanarBlock = (n seed : ℕ) → 6 ≤ n → IsPlanarBlock (made n seed)

-- and no polygons
abbrev pub MadeHasFork : Type 0
MadeHasFork = (n seed : ℕ) → 6 ≤ n → HasFork (made n seed)

-- made graphs are of the size that was asked for
abbrev pub MadeIsOfSize : Type 0
MadeIsOfSize = (n seed : ℕ) → 6 ≤ n → IsOfSize n (made n seed)
