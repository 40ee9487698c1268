use Rattle.std.proofs.Common.{sym}
use Rattle.spqr_script.proofs.FromFront.{blank_dropped}
use Rattle.spqr_script.proofs.tokens.skip_blanks.Goals as goal

pub loop-b-preserved : goal.loop-b-preserved
loop-b-preserved c =
    blank_dropped c.args.line.now c.loop-b.rest.now c.in-Some.b.now c.in-Some.after.now c.loop-b.invariant c.in-Some.ensures.cases.0 (sym c.if-not-is_blank.ensures)
