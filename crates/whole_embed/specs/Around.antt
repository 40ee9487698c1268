-- The edges and the blocks around a vertex of a component, in the numbers of the graph.
use Rattle.std.specs.Prelude.{ℕ, List, map, slice_index}
use Rattle.permutations.specs.Members.{place_of}
use Rattle.multigraph.specs.Graph.{incident_edges}
use Rattle.multigraph.specs.Part.{GraphPart}
use Rattle.rotations.specs.Rotation.{order_at}
use Rattle.arrangements.specs.Arranged.{arrangements_at}
use Rattle.whole_embed.specs.Component.{Component, BlockInPlane}

-- the cyclic order that a rotation system of a part has around vertex v of the graph, from the least edge on; empty where v is
-- not a vertex of the part
abbrev pub outer_at : GraphPart → List (List ℕ) → ℕ → List ℕ
outer_at part r v = map (slice_index part.edges) (order_at r (place_of part.vertices v))

-- the edges at v, increasing
abbrev pub edges_around : Component → ℕ → List ℕ
edges_around k v = map (slice_index k.part.edges) (incident_edges k.part.graph (place_of k.part.vertices v))

-- the block that has edge e
abbrev pub block_with : Component → ℕ → ℕ
block_with k e = slice_index k.edge_blocks (place_of k.part.edges e)

-- the present cyclic order of block b around v, from the least edge on; empty where v is not a vertex of the block
abbrev pub block_order : (ℕ → BlockInPlane) → ℕ → ℕ → List ℕ
block_order block v b = outer_at (block b).part (block b).rotation v

-- the arrangements at v: all edges from the least on, each block in its present cyclic order, and no two blocks cross; in
-- lexicographic order
abbrev pub arrangements_around : Component → (ℕ → BlockInPlane) → ℕ → List (List ℕ)
arrangements_around k block v = arrangements_at (block_with k) (block_order block v) (edges_around k v)
