-- A pair is no deeper than those that it is among, and has no more pairs in it.
use Rattle.std.proofs.Common.{ap, arith}
use Rattle.gml_text.specs.Document.{depth, pair_count}
use Rattle.gml_text.proofs.Lines.{depth-pair, pair_count-pair}
use Rattle.gml_text.proofs.writer.+lines.Goals as goal

pub write_pairs-push_pair-requires : goal.write_pairs-push_pair-requires
write_pairs-push_pair-requires t c =
    let items = c.as_slice-pair-items.result.now in
    let i = c.loop-pair.pair-index in
    let pair = c.pair-item.result in (
      omega (arith, c.decreases, pair_count-pair items i pair c.loop-pair-test.true c.pair-item.is, ap pair_count c.as_slice-pair-items.ensures),
      omega (arith, c.requires, depth-pair items i pair c.loop-pair-test.true c.pair-item.is, ap depth c.as_slice-pair-items.ensures),
    )
