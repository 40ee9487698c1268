use Rattle.spqr_script.proofs.FromFront.{line_before, whole_line}
use Rattle.spqr_script.proofs.reader.first_line.Goals as goal

pub returns-in-Some : goal.returns-in-Some
returns-in-Some c = line_before c.args.bytes.now c.in-Some.line.now c.in-Some.rest.now c.in-Some.ensures.0 c.in-Some.ensures.1

pub returns-in-None : goal.returns-in-None
returns-in-None c = whole_line c.args.bytes.now c.split_at.result.0.now c.split_at.result.1.now c.requires c.in-None.ensures c.split_at.ensures.front c.split_at.ensures.back
