-- The part of a block with its tree.
use Rattle.std.proofs.Common.{ℕ, ◌<◌, List, length}
use Rattle.multigraph.specs.Graph.{Multigraph}
use Rattle.multigraph.specs.Part.{GraphPart, IsPart}
use Rattle.blocks.specs.Blocks.{block_at, AreBlocks}
use Rattle.blocks.proofs.BlockParts.{part-one_block}
use Rattle.pair_split.specs.Tutte.{Node, IsTutte}
use Rattle.skeletons.specs.Items.{IsBlockTree}

-- the part that a block's edges make, with its tree, is the tree of a block
pub block-tree : (g : Multigraph) (blocks : List (List ℕ)) (b : ℕ) (part : GraphPart) (nodes : List Node) → AreBlocks g blocks → b < length blocks → IsPart g (block_at blocks b) part → IsTutte part.graph nodes → IsBlockTree part.graph nodes
block-tree g blocks b part nodes are l is t = record { graph = is.numbered.is_graph; block = part-one_block g blocks b part are l is; tree = t }
