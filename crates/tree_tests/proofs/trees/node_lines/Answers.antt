use Rattle.std.proofs.Common.{◌<◌, ℕ, List, length, slice_index, sym, subst}
use Rattle.multigraph.specs.Graph.{edge_count}
use Rattle.blocks.proofs.BlockParts.{block-edges_in}
use Rattle.tree_tests.proofs.trees.node_lines.Goals as goal

pub part-requires-clause-within : goal.part-requires-clause-within
part-requires-clause-within c =
    subst (λ (edges : List ℕ). (i : ℕ) → i < length edges → slice_index edges i < edge_count c.args.graph.now) (sym c.edges.ensures)
    (block-edges_in c.args.graph.now c.args.blocks.now.blocks c.args.b c.requires.structure.blocks c.requires.block)
