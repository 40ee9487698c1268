use Rattle.std.proofs.Common.{◌-◌, ◌+◌, ◌<◌, List, length, slice_index, slice_index_or, slice_set, subst, arith}
use Rattle.embed_enum.specs.Walk.{IsNextOf}
use Rattle.whole_embed.specs.declared.members.Member.{Member}
use Rattle.whole_embed.specs.Advanced.{IsLed, AreFirstBetween}
use Rattle.whole_embed.proofs.Advance.{read-member, advanced}
use Rattle.whole_embed.proofs.advancing.advance.Goals as goal

pub returns-then-step-clause-next : goal.returns-then-step-clause-next
returns-then-step-clause-next c = λ t.
    let h = c.loop-j.invariant in
    let j = c.loop-j.j - 1 in
    let b = slice_index c.args.blocks.now j in
    let l : j < length c.args.blocks.now = omega (arith, h.within, c.loop-j-test.true) in
    let w : b < length c.args.all.now = c.requires.within j l in
    let m = c.index-all-blocks.result in
    let e = read-member c.args.all.now b m w in
    let led : IsLed IsNextOf (slice_index_or c.args.all.now b m) c.step.new.member = subst (λ (z : List Member). IsLed IsNextOf (slice_index_or z b m) c.step.new.member) h.same (c.step.ensures.next c.if-step.true) in
    advanced c.args.blocks.now c.args.all.now c.reset_from.new.all j c.step.new.member c.requires.increasing l w
    (subst (λ z. IsLed IsNextOf z c.step.new.member) e led)
    (λ i a k. h.last i (omega (arith, a, c.loop-j-test.true)) k)
    (subst (λ (z : List Member). AreFirstBetween c.args.blocks.now (slice_set z b c.step.new.member) c.reset_from.new.all (j + 1) (length c.args.blocks.now)) h.same c.reset_from.ensures)
