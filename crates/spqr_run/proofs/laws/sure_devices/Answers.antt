use Rattle.std.proofs.Common.{subst, arith}
use Rattle.spqr_run.specs.Run.{CountsReads, CountsPuts}
use Rattle.spqr_run.specs.declared.status.Status.{Status}
use Rattle.spqr_run.proofs.laws.sure_devices.Goals as goal

pub returns : goal.returns
returns c = record {
  reads = λ status counts e. let rose = subst (λ (s : Status). CountsReads 0 0 s) e counts in absurd (omega (arith, rose.1));
  puts = λ status counts e. let rose = subst (λ (s : Status). CountsPuts 0 0 s) e counts in absurd (omega (arith, rose));
}
