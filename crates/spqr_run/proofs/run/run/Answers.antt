use Rattle.spqr_run.specs.Ending.{task_of}
use Rattle.spqr_run.proofs.Runs.{carried-run, refused-run}
use Rattle.spqr_run.proofs.run.run.Goals as goal

pub returns-in-Ok : goal.returns-in-Ok
returns-in-Ok g c = record { run = carried-run _ _ _ (task_of c.in-Ok.plan) c.carry_out.result c.in-Ok.ensures.decided c.carry_out.ensures.text c.carry_out.ensures.faults }

pub returns-in-Err-Refused : goal.returns-in-Err-Refused
returns-in-Err-Refused g c =
    let is = c.in-Err-Refused.field-0-is in
    record { run = refused-run c.decisions.ensures.accepted _ _ _ c.in-Err-Refused.refusal (rw is at c.in-Err-Refused.ensures.decided) c.refuse.result c.refuse.ensures.line c.refuse.ensures.faults }
