use Rattle.std.proofs.Common.{refl, sym, subst, arith}
use Rattle.std.proofs.lemmas.List.{drop_all}
use Rattle.spqr_session.specs.AtOnce.{AreOfBlock}
use Rattle.spqr_session.proofs.AtOnce.{one-more}
use Rattle.spqr_session.proofs.at_once.only_block.Goals as goal

pub loop-pair-init : goal.loop-pair-init
loop-pair-init c = λ h. h

pub loop-pair-preserved : goal.loop-pair-preserved
loop-pair-preserved c = λ h. c.loop-pair.invariant (one-more c.args.moves.now c.loop-pair.pair-index c.pair-item.result _ c.loop-pair-test.true c.pair-item.is c.if-pair-first.false h)

pub returns : goal.returns
returns c = c.loop-pair.invariant (subst (AreOfBlock _) (sym (drop_all c.loop-pair.pair-index c.args.moves.now (omega (arith, c.loop-pair-test.false)))) refl)
