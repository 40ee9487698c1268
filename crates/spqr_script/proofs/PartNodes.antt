-- The nodes of a part's tree, for their lines.
use Rattle.std.proofs.Common.{ℕ, ◌<◌, List, length}
use Rattle.multigraph.specs.Graph.{IsGraph}
use Rattle.multigraph.specs.Part.{GraphPart}
use Rattle.pair_split.specs.Tutte.{Node, node_at, IsTutte}
use Rattle.spqr_tree.proofs.TutteFits.{tutte-items, tutte-vertices}
use Rattle.spqr_script.specs.Node.{IsNodeOf}

-- each number in a node of a part's tree is one of the part
pub node-of_part : (part : GraphPart) (nodes : List Node) (k : ℕ) → IsGraph part.graph → IsTutte part.graph nodes → k < length nodes → IsNodeOf part (node_at nodes k)
node-of_part part nodes k is t l = record { vertices = tutte-vertices part.graph nodes is t k l; items = tutte-items part.graph nodes is t k }
