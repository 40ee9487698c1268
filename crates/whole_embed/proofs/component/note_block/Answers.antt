use Rattle.std.proofs.Common.{get_or, refl, ◌∙◌, arith}
use Rattle.std.proofs.lemmas.List.{length-set}
use Rattle.whole_embed.proofs.BlockTables.{noted-more}
use Rattle.whole_embed.proofs.component.note_block.Goals as goal

pub loop-edge-preserved : goal.loop-edge-preserved
loop-edge-preserved c =
    let i = c.loop-edge.edge-index in (
      noted-more c.args.edges.now c.args.b c.loop-edge.edge-index c.args.table.now c.loop-edge.table _ c.loop-edge-test.true
          (omega (arith, c.requires c.loop-edge.edge-index c.loop-edge-test.true, c.loop-edge.invariant.1)) c.loop-edge.invariant.0 c.loop-edge.invariant.1 refl,
      length-set c.loop-edge.table (get_or c.args.edges.now i 0) c.args.b ∙ c.loop-edge.invariant.1,
    )
