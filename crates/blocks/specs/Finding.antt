-- Of private functions: what the steps from a finished search to the blocks give.
use Rattle.std.specs.Prelude.{◌≡◌, ℕ, ◌<◌, ◌≤◌, ◌↔◌, ◌⊎◌, Bool, true, false, List, length, slice_index}
use Rattle.permutations.specs.Relation.{class_count}
use Rattle.multigraph.specs.Graph.{Multigraph, edge_count}
use Rattle.graph_theory.specs.Block.{SameBlock}
use Rattle.search_forest.specs.Forest.{ForestState}
use Rattle.search_forest.specs.Low.{LowVertices}
use Rattle.multigraph.specs.Marks.{is_marked}
use Rattle.blocks.specs.Numbering.{IsNumbering, same_label}

-- the low point of v, as a depth
abbrev pub low_depth : ForestState → LowVertices → ℕ → ℕ
low_depth s low v = slice_index s.depth (slice_index low.first v)

-- v is a root, or nothing leads from it or below it past its parent
abbrev pub IsHead : ForestState → LowVertices → ℕ → Type 0
IsHead s low v = (slice_index s.depth v ≡ 0) ⊎ (slice_index s.depth (slice_index s.parent v) ≤ low_depth s low v)

-- v is not a root, and something does
abbrev pub IsNoHead : ForestState → LowVertices → ℕ → Type 0
IsNoHead s low v = (0 < slice_index s.depth v) × (low_depth s low v < slice_index s.depth (slice_index s.parent v))

-- the marks of the first k vertices: whether nothing leads from the vertex or below it past its parent, or it is a root
pub record AreHeads (s : ForestState) (low : LowVertices) (k : ℕ) (heads : List Bool) : Type 0 where
  pub places : length heads ≡ k
  pub head : (v : ℕ) → v < k → is_marked heads v ≡ true → IsHead s low v
  pub other : (v : ℕ) → v < k → is_marked heads v ≡ false → IsNoHead s low v

-- the marks of the first k vertices: whether the vertex is a root
pub record AreRoots (s : ForestState) (k : ℕ) (roots : List Bool) : Type 0 where
  pub places : length roots ≡ k
  pub root : (v : ℕ) → v < k → is_marked roots v ≡ true → slice_index s.depth v ≡ 0
  pub other : (v : ℕ) → v < k → is_marked roots v ≡ false → 0 < slice_index s.depth v

-- the numbers of the blocks of the edges, in order of their least edges, and how many there are
pub record AreBlockNumbers (g : Multigraph) (numbers : List ℕ) (total : ℕ) : Type 0 where
  pub labels : List ℕ
  pub labelled : length labels ≡ edge_count g
  pub numbering : IsNumbering labels numbers
  pub counted : total ≡ class_count (length labels) (same_label labels)
  pub same : (e f : ℕ) → e < edge_count g → f < edge_count g → (slice_index labels e ≡ slice_index labels f) ↔ SameBlock g e f
