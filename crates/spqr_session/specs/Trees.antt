-- The trees of a graph's blocks, each for its block as a graph of its own.
use Rattle.std.specs.Prelude.{◌≡◌, ℕ, ◌<◌, List, [], length, slice_index_or}
use Rattle.multigraph.specs.Graph.{Multigraph}
use Rattle.multigraph.specs.Part.{GraphPart, IsPart}
use Rattle.blocks.specs.Blocks.{block_at}
use Rattle.pair_split.specs.Tutte.{Node, IsTutte}

-- a block as a graph of its own, and the nodes of its tree
pub record BlockTree : Type 0 where
  pub part : GraphPart
  pub nodes : List Node

-- one without vertices, edges and nodes
abbrev pub no_tree : BlockTree
no_tree = record { part = record { graph = record { vertex_count = 0; ends = [] }; vertices = []; edges = [] }; nodes = [] }

-- the tree of block b; one without nodes where there is none
abbrev pub tree_at : List BlockTree → ℕ → BlockTree
tree_at trees b = slice_index_or trees b no_tree

-- the part is that which these edges make, and the nodes are its tree
pub record IsBlockTree (g : Multigraph) (edges : List ℕ) (tree : BlockTree) : Type 0 where
  pub part : IsPart g edges tree.part
  pub nodes : IsTutte tree.part.graph tree.nodes

-- there is a tree for each block, in order
pub record AreBlockTrees (g : Multigraph) (blocks : List (List ℕ)) (trees : List BlockTree) : Type 0 where
  pub one_each : length trees ≡ length blocks
  pub each : (b : ℕ) → b < length blocks → IsBlockTree g (block_at blocks b) (tree_at trees b)
