use Rattle.spqr_script.proofs.Parts.{part_before, last_part}
use Rattle.spqr_script.proofs.rotation.first_part.Goals as goal

pub returns-in-Some : goal.returns-in-Some
returns-in-Some c = part_before c.args.text.now c.in-Some.part.now c.in-Some.after.now c.in-Some.ensures.0 c.in-Some.ensures.1

pub returns-in-None : goal.returns-in-None
returns-in-None c = last_part c.args.text.now c.in-None.ensures
