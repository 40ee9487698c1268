use Rattle.std.proofs.Common.{◌≡◌, ◌<◌, ◌+◌, length, slice_index, sym, ap, ◌∙◌, subst, arith}
use Rattle.whole_embed.specs.Component.{Component}
use Rattle.whole_embed.specs.Cuts.{CutState, blocks_in}
use Rattle.whole_embed.proofs.FrameFacts.{place-some}
use Rattle.whole_convert.specs.Between.{has_block_at}
use Rattle.whole_convert.specs.Led.{is_marked}
use Rattle.whole_convert.proofs.FrameTables.{AreThen, cut-there, read-test, then-first, then-stays}
use Rattle.whole_convert.proofs.cut_lists.cuts_then.Goals as goal
use Rattle.whole_convert.proofs.cut_lists.cuts_then.Goals.{then-is_marked_at, else-is_marked_at}

pub unwrap-v-requires : goal.unwrap-v-requires
unwrap-v-requires c =
    let f = c.frame-frame.result.now in
    let l : c.loop-i.i < length f.cuts = omega (arith, c.loop-i-test.true, c.count-i-end.ensures, ap (λ (k : Component). length k.cuts) c.frame-frame.ensures.value) in
    place-some c.part.result.now.vertices (slice_index c.cuts.result.now c.loop-i.i) c.inner_vertex.result c.inner_vertex.ensures
    (cut-there f c.part.result.now c.cuts.result.now c.loop-i.i c.part.ensures.value c.cuts.ensures.value c.cuts.ensures.frame l)

pub loop-i-preserved : goal.loop-i-preserved
loop-i-preserved c =
    let k = c.args.cuts.now.component in
    let block = blocks_in c.args.new.now in
    let test = is_marked c.args.marks.now in
    let f = c.frame-frame.result.now in
    let l : c.loop-i.i < length k.cuts = omega (arith, c.loop-i-test.true, c.count-i-end.ensures) in
    let read : c.is_marked_at.result ≡ has_block_at k (is_marked c.args.marks.now) (slice_index k.cuts c.loop-i.i) =
    read-test k f c.part.result.now c.cuts.result.now test c.loop-i.i c.unwrap-v.result c.inner_vertex.result c.is_marked_at.result c.frame-frame.ensures.value c.part.ensures.value c.cuts.ensures.value c.part.ensures.numbered c.inner_vertex.ensures c.unwrap-v.ensures
    c.is_marked_at.ensures in
    elim c.if-is_marked_at.branch [
      | then-is_marked_at w ↦ then-first k block test c.args.cuts.now.lists c.loop-i.after c.if-is_marked_at.after c.loop-i.i l (sym read ∙ w.if-is_marked_at.true) c.loop-i.invariant (w.after-is ∙ w.set_first.ensures)
      | else-is_marked_at w ↦ subst (λ (z : CutState). AreThen k block test c.args.cuts.now.lists z (c.loop-i.i + 1)) (sym w.after-is) (then-stays k block test c.args.cuts.now.lists c.loop-i.after c.loop-i.i (sym read ∙ w.if-is_marked_at.false) c.loop-i.invariant)
    ]
