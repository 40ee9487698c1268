use Rattle.multigraph.specs.Graph.{edge_count}
use Rattle.spqr_session.specs.Sorting.{HasBlocks}
use Rattle.spqr_session.proofs.sorting.blocks_of_edges.Given as goal

-- the edges of the blocks so far have theirs
abbrev pub invariant-loop-b : goal.invariant-loop-b
invariant-loop-b l = HasBlocks (edge_count l.graph) l.blocks.blocks l.b l.table.items
