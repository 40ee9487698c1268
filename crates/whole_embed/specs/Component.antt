-- The components of a graph as graphs of their own, and their blocks in the plane.
use Rattle.std.specs.Prelude.{◌≡◌, ℕ, ◌<◌, Bool, true, ◌==◌, List, length, map, filter, slice_index}
use Rattle.permutations.specs.Count.{least}
use Rattle.permutations.specs.Members.{is_member, place_of}
use Rattle.multigraph.specs.Graph.{Multigraph, edge_count, ends_of, numbers_below, IsGraph, IsWithinLimits}
use Rattle.multigraph.specs.Part.{GraphPart, IsPart}
use Rattle.blocks.specs.Blocks.{BlockStructure, block_at, IsBlockStructure}
use Rattle.pair_split.specs.Tutte.{Node}
use Rattle.faces.specs.Euler.{IsPlaneSystem}
use Rattle.skeletons.specs.Items.{IsBlockTree}

-- a component as a graph of its own; in the numbers of the graph its blocks and its cut vertices, increasing, and the block of
-- each edge of the part
pub record Component : Type 0 where
  pub part : GraphPart
  pub blocks : List ℕ
  pub cuts : List ℕ
  pub edge_blocks : List ℕ

-- the part of g that these vertices and edges make: each edge has the ends that it has in g, the first as the first
abbrev pub part_made : Multigraph → List ℕ → List ℕ → GraphPart
part_made g vertices edges = record {
  graph = record { vertex_count = length vertices; ends = map (λ e. (place_of vertices (ends_of g e).0, place_of vertices (ends_of g e).1)) edges };
  vertices = vertices;
  edges = edges;
}

-- the vertices of component c, increasing
abbrev pub component_vertices : BlockStructure → ℕ → List ℕ
component_vertices s c = filter (λ v. slice_index s.components v == c) (numbers_below (length s.components))

-- whether edge e is in component c: its first end is, and so is its second
abbrev pub has_edge : Multigraph → BlockStructure → ℕ → ℕ → Bool
has_edge g s c e = slice_index s.components (ends_of g e).0 == c

-- the edges of component c, increasing
abbrev pub component_edges : Multigraph → BlockStructure → ℕ → List ℕ
component_edges g s c = filter (has_edge g s c) (numbers_below (edge_count g))

-- the blocks of component c, increasing: those whose least edge is in it, and so are all their edges
abbrev pub component_blocks : Multigraph → BlockStructure → ℕ → List ℕ
component_blocks g s c = filter (λ b. has_edge g s c (slice_index (block_at s.blocks b) 0)) (numbers_below (length s.blocks))

-- the cut vertices in component c, increasing
abbrev pub component_cuts : BlockStructure → ℕ → List ℕ
component_cuts s c = filter (λ v. slice_index s.components v == c) s.cut_vertices

-- the block that has edge e
abbrev pub block_of : List (List ℕ) → ℕ → ℕ
block_of blocks e = least (length blocks) (λ b. is_member e (block_at blocks b))

-- component c of a graph with its blocks and its cut vertices
abbrev pub component_of : Multigraph → BlockStructure → ℕ → Component
component_of g s c = record {
  part = part_made g (component_vertices s c) (component_edges g s c);
  blocks = component_blocks g s c;
  cuts = component_cuts s c;
  edge_blocks = map (block_of s.blocks) (component_edges g s c);
}

-- a block as a part of the graph, with its tree, a rotation system, and of each node of the tree whether it is locked
pub record BlockInPlane : Type 0 where
  pub part : GraphPart
  pub nodes : List Node
  pub rotation : List (List ℕ)
  pub locks : List Bool

-- of each block of component c the part, its tree, a plane rotation system, and a lock for each node
pub record AreInPlane (g : Multigraph) (s : BlockStructure) (c : ℕ) (block : ℕ → BlockInPlane) : Type 0 where
  pub parts : (b : ℕ) → is_member b (component_blocks g s c) ≡ true → IsPart g (block_at s.blocks b) (block b).part
  pub trees : (b : ℕ) → is_member b (component_blocks g s c) ≡ true → IsBlockTree (block b).part.graph (block b).nodes
  pub planes : (b : ℕ) → is_member b (component_blocks g s c) ≡ true → IsPlaneSystem (block b).part.graph (block b).rotation
  pub locks : (b : ℕ) → is_member b (component_blocks g s c) ≡ true → length (block b).locks ≡ length (block b).nodes

-- k is a component of some graph, and its blocks are in the plane
pub record IsComponentInPlane (k : Component) (block : ℕ → BlockInPlane) : Type 0 where
  pub graph : Multigraph
  pub structure : BlockStructure
  pub number : ℕ
  pub is_graph : IsGraph graph
  pub limits : IsWithinLimits graph
  pub is_structure : IsBlockStructure graph structure
  pub within : number < structure.component_count
  pub component : k ≡ component_of graph structure number
  pub blocks : AreInPlane graph structure number block
