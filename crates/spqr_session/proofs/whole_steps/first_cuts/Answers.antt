use Rattle.std.proofs.Common.{◌<◌, length, ap, arith}
use Rattle.whole_embed.specs.Cuts.{CutState, blocks_in}
use Rattle.spqr_session.proofs.WholesFirst.{first-more}
use Rattle.spqr_session.proofs.whole_steps.first_cuts.Goals as goal

pub loop-i-preserved : goal.loop-i-preserved
loop-i-preserved c =
    let within : c.loop-i.i < length c.args.cuts.now.component.cuts = omega (arith, c.loop-i-test.true, c.count-i-end.ensures, ap (λ (z : CutState). length z.component.cuts) (c.in_ok-first.ensures {u = tt})) in
    first-more c.args.cuts.now c.loop-i.first c.set_first.new.self (blocks_in c.args.all.now) c.loop-i.i c.keeps.ensures within c.loop-i.invariant c.set_first.ensures
