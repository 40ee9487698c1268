use Rattle.std.proofs.Common.{slice_index, subst, arith}
use Rattle.whole_embed.specs.Advanced.{IsFirstOf, IsLed}
use Rattle.whole_embed.proofs.Advance.{read-member, first-begins, first-more}
use Rattle.whole_embed.proofs.advancing.reset_from.Goals as goal

pub loop-j-init : goal.loop-j-init
loop-j-init c = first-begins c.args.blocks.now c.args.all.now c.args.from

pub loop-j-preserved : goal.loop-j-preserved
loop-j-preserved c =
    let h = c.loop-j.invariant in
    let l = c.loop-j-test.true in
    let w = c.requires.within c.loop-j.j l in
    let r = read-member c.loop-j.all (slice_index c.args.blocks.now c.loop-j.j) c.index-all-blocks.result (omega (arith, w, h.count)) in
    first-more c.args.blocks.now c.args.all.now c.loop-j.all c.args.from c.loop-j.j c.reset.new.member c.requires.increasing c.loop-j.auto.j l w h
    (subst (λ m. IsLed IsFirstOf m c.reset.new.member) r c.reset.ensures)
