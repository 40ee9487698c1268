use Rattle.spqr_session.proofs.Chains.{one-report, one-closed_report, report-goes_on}
use Rattle.spqr_session.proofs.OneStart.{start-one}
use Rattle.spqr_session.proofs.laws.reports.Goals as goal

pub returns : goal.returns
returns c = record {
  start = start-one;
  report = one-report;
  closed = one-closed_report;
  more = report-goes_on;
}
