use Rattle.spqr_session.proofs.SortedEdges.{note-next}
use Rattle.spqr_session.proofs.sorting.note_block.Goals as goal

-- one edge more
pub loop-e-preserved : goal.loop-e-preserved
loop-e-preserved c =
    note-next c.args.edges.now c.loop-e.e-index c.args.b c.args.table.now c.loop-e.table c.loop-e-test.true c.loop-e.invariant (c.requires c.loop-e.e-index 0 c.loop-e-test.true)
