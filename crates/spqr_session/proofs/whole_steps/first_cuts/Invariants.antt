use Rattle.whole_embed.specs.Cuts.{blocks_in}
use Rattle.spqr_session.proofs.WholesFirst.{AreFirstSet}
use Rattle.spqr_session.proofs.whole_steps.first_cuts.Given as goal

abbrev pub invariant-loop-i : goal.invariant-loop-i
invariant-loop-i l = AreFirstSet l.cuts (blocks_in l.all) l.first l.i
