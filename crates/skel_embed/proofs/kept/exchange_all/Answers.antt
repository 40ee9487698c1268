use Rattle.std.proofs.Common.{◌<◌, length, slice_index_or, slice_set, refl, ap, ◌∙◌, arith}
use Rattle.std.proofs.lemmas.List.{length-set}
use Rattle.skel_embed.proofs.KeptLists.{exchange-more}
use Rattle.skel_embed.proofs.kept.exchange_all.Goals as goal

pub loop-i-preserved : goal.loop-i-preserved
loop-i-preserved c =
    let short : c.loop-i.i < length c.args.keys.now = omega (arith, c.loop-i-test.true, c.loop-i.invariant.1) in (
      ap (slice_set c.loop-i.keys c.loop-i.i) c.other_of.ensures ∙ exchange-more c.args.a c.args.b c.args.keys.now c.loop-i.keys c.loop-i.i (slice_index_or c.loop-i.keys c.loop-i.i 0) short c.loop-i.invariant.0 refl,
      length-set c.loop-i.keys c.loop-i.i c.other_of.result ∙ c.loop-i.invariant.1,
    )
