use Rattle.std.proofs.Common.{◌<◌, ◌+◌, ℕ, List, length, drop, All, sym, ◌∙◌, subst}
use Rattle.std.proofs.lemmas.List.{take_at}
use Rattle.multigraph.specs.Graph.{edge_count}
use Rattle.blocks.specs.Blocks.{block_at}
use Rattle.spqr_session.specs.Sorting.{HasBlocks, IsBlockNoted}
use Rattle.spqr_session.proofs.SortedEdges.{block-within, blocks-more}
use Rattle.spqr_session.proofs.sorting.blocks_of_edges.Goals as goal

-- the edges of a block are edges of the graph
pub note_block-requires : goal.note_block-requires
note_block-requires c =
    let blocks = c.args.blocks.now.blocks in
    let within = subst (λ (n : ℕ). c.loop-b.b < n) c.block_count-b-end.ensures c.loop-b-test.true in
    subst (λ (edges : List ℕ). All (λ e. e < length c.deref_mut.result.now) edges) (sym c.edges.ensures)
    (subst (λ (table : List ℕ). All (λ e. e < length table) (block_at blocks c.loop-b.b)) (sym c.deref_mut.ensures.value)
    (block-within c.args.graph.now blocks c.requires.blocks c.loop-b.b c.loop-b.b c.loop-b.table.items c.loop-b.invariant within))

-- one block more
pub loop-b-preserved : goal.loop-b-preserved
loop-b-preserved c =
    let g = c.args.graph.now in
    let blocks = c.args.blocks.now.blocks in
    let b = c.loop-b.b in
    let within = subst (λ (n : ℕ). b < n) c.block_count-b-end.ensures c.loop-b-test.true in
    let noted = subst (λ (edges : List ℕ). IsBlockNoted edges b c.deref_mut.result.now c.note_block.new.table) c.edges.ensures c.note_block.ensures in
    subst (λ (l : List ℕ). HasBlocks (edge_count g) blocks (b + 1) l)
    (sym (take_at c.note_block.new.table (drop (length c.note_block.new.table) c.loop-b.table.items) c.loop-b.table.len (c.note_block.auto.table ∙ c.deref_mut.ensures.len)))
    (blocks-more g blocks c.requires.blocks b c.loop-b.table.items c.note_block.new.table within c.loop-b.invariant
    (subst (λ (old : List ℕ). IsBlockNoted (block_at blocks b) b old c.note_block.new.table) c.deref_mut.ensures.value noted))
