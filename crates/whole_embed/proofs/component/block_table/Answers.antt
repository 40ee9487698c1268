use Rattle.std.proofs.Common.{◌≡◌, ◌+◌, ◌<◌, ℕ, List, length, get_or, sym, ap, ◌∙◌, subst, arith}
use Rattle.permutations.proofs.Arrangements.{member-at}
use Rattle.blocks.specs.Blocks.{block_at}
use Rattle.whole_embed.specs.Frames.{AreNoted, AreNotedBelow}
use Rattle.whole_embed.proofs.BlockTables.{below-more}
use Rattle.whole_embed.proofs.FrameFacts.{written-back}
use Rattle.whole_embed.proofs.component.block_table.Goals as goal

-- the edges of the block are in the table
pub note_block-requires : goal.note_block-requires
note_block-requires c i l =
    let own = block_at c.args.blocks.now.blocks c.loop-b.b in
    let lb : c.loop-b.b < length c.args.blocks.now.blocks = omega (arith, c.loop-b-test.true, c.block_count-b-end.ensures) in
    let li : i < length own = subst (λ (z : List ℕ). i < length z) c.edges.ensures l in
    let inside = c.requires.blocks.edges c.loop-b.b (get_or own i 0) lb (member-at own i 0 li) in
    omega (arith, ap (λ (z : List ℕ). get_or z i 0) c.edges.ensures, inside, ap length c.deref_mut.ensures.value, c.loop-b.invariant.each)

-- one block more
pub loop-b-preserved : goal.loop-b-preserved
loop-b-preserved c =
    let g = c.args.graph.now in
    let s = c.args.blocks.now in
    let own = block_at c.args.blocks.now.blocks c.loop-b.b in
    let old = c.loop-b.table.items in
    let new = c.note_block.new.table in
    let lb : c.loop-b.b < length s.blocks = omega (arith, c.loop-b-test.true, c.block_count-b-end.ensures) in
    let each : length new ≡ length old = c.note_block.ensures.each ∙ ap length c.deref_mut.ensures.value in
    let noted : AreNoted own c.loop-b.b old new = subst (λ (z : List ℕ). AreNoted own c.loop-b.b z new) c.deref_mut.ensures.value (subst (λ (z : List ℕ). AreNoted z c.loop-b.b c.deref_mut.result.now new) c.edges.ensures c.note_block.ensures.noted) in
    subst (AreNotedBelow g s.blocks (c.loop-b.b + 1)) (sym (written-back c.loop-b.table.len old new (omega (arith, each, c.loop-b.table.ok.0))))
    (below-more g s c.requires c.edge_count.ensures.graph c.loop-b.b old new lb c.loop-b.invariant noted each)
