-- The blocks, cut vertices and components of a multigraph.
use Rattle.std.specs.Prelude.{◌≡◌, ℕ, ◌<◌, ◌↔◌, true, List, [], length, slice_index, slice_index_or}
use Rattle.permutations.specs.Count.{count}
use Rattle.permutations.specs.Relation.{connected, leads, class_count}
use Rattle.permutations.specs.Members.{is_member}
use Rattle.multigraph.specs.Graph.{Multigraph, edge_count, is_end}
use Rattle.multigraph.specs.Part.{Rises}
use Rattle.graph_theory.specs.Block.{SameBlock}

-- the edges of each block, the cut vertices, how many components there are, and the component of each vertex
pub record BlockStructure : Type 0 where
  pub blocks : List (List ℕ)
  pub cut_vertices : List ℕ
  pub component_count : ℕ
  pub components : List ℕ

-- the edges of block b
abbrev pub block_at : List (List ℕ) → ℕ → List ℕ
block_at blocks b = slice_index_or blocks b []

-- the lists are the blocks: the classes of edges that are equal or on a common cycle, each once, its edges in increasing order, in order
-- of their least edges
pub record AreBlocks (g : Multigraph) (blocks : List (List ℕ)) : Type 0 where
  pub rising : (b : ℕ) → b < length blocks → Rises (block_at blocks b)
  pub not_empty : (b : ℕ) → b < length blocks → 0 < length (block_at blocks b)
  pub by_least : (b c : ℕ) → b < c → c < length blocks → slice_index (block_at blocks b) 0 < slice_index (block_at blocks c) 0
  pub edges : (b e : ℕ) → b < length blocks → is_member e (block_at blocks b) ≡ true → e < edge_count g
  pub each : (e : ℕ) → e < edge_count g → (b : ℕ) × (b < length blocks) × (is_member e (block_at blocks b) ≡ true)
  pub same : (b c e f : ℕ) → b < length blocks → c < length blocks → is_member e (block_at blocks b) ≡ true → is_member f (block_at blocks c) ≡ true → (b ≡ c) ↔ SameBlock g e f

-- v is a cut vertex: it has edges of at least two blocks
pub record IsCutVertex (g : Multigraph) (v : ℕ) : Type 0 where
  pub first : ℕ
  pub second : ℕ
  pub first_edge : first < edge_count g
  pub second_edge : second < edge_count g
  pub first_end : is_end g v first ≡ true
  pub second_end : is_end g v second ≡ true
  pub apart : SameBlock g first second → ⊥

-- the list is that of the cut vertices, in increasing order
pub record AreCutVertices (g : Multigraph) (cut : List ℕ) : Type 0 where
  pub rising : Rises cut
  pub vertices : (v : ℕ) → is_member v cut ≡ true → v < g.vertex_count
  pub sound : (v : ℕ) → is_member v cut ≡ true → IsCutVertex g v
  pub complete : (v : ℕ) → v < g.vertex_count → IsCutVertex g v → is_member v cut ≡ true

-- the components: vertices have the same one exactly where edges connect them, and they are numbered in order of their least
-- vertices
pub record AreComponents (g : Multigraph) (components : List ℕ) (total : ℕ) : Type 0 where
  pub places : length components ≡ g.vertex_count
  pub least : (v : ℕ) → v < g.vertex_count → leads (connected g.ends) v ≡ true → slice_index components v ≡ count v (leads (connected g.ends))
  pub same : (u v : ℕ) → u < g.vertex_count → v < g.vertex_count → (slice_index components u ≡ slice_index components v) ↔ (connected g.ends u v ≡ true)
  pub counted : total ≡ class_count g.vertex_count (connected g.ends)

-- blocks, cut vertices and components are those of g
pub record IsBlockStructure (g : Multigraph) (s : BlockStructure) : Type 0 where
  pub blocks : AreBlocks g s.blocks
  pub cut_vertices : AreCutVertices g s.cut_vertices
  pub components : AreComponents g s.components s.component_count
