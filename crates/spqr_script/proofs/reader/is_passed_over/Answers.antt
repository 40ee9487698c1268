use Rattle.spqr_script.proofs.FromFront.{passed_end, passed_other}
use Rattle.spqr_script.proofs.reader.is_passed_over.Goals as goal

pub returns-in-None : goal.returns-in-None
returns-in-None c = passed_end c.args.line.now c.skip_blanks.result.now c.skip_blanks.ensures.passed_over c.in-None.ensures.cases

pub returns-in-Some : goal.returns-in-Some
returns-in-Some c = passed_other c.args.line.now c.skip_blanks.result.now c.in-Some.b.now c.in-Some.field-0-1.now c.skip_blanks.ensures.passed_over c.skip_blanks.ensures.at_other c.in-Some.ensures.cases.0
