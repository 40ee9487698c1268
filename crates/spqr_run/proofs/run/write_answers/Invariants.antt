use Rattle.std.proofs.Common.{◌≡◌, take}
use Rattle.spqr_run.specs.Writing.{WritesAll}
use Rattle.spqr_run.proofs.run.write_answers.Given as goal

abbrev pub invariant-loop-command : goal.invariant-loop-command
invariant-loop-command g l = record {
  setting : l.session.setting ≡ l.fn.session.setting;
  written : WritesAll l.fn.session.setting l.fn.session.state (take l.command-index l.commands) (g.K.Sink.written l.fn.sink) (g.K.Sink.written l.sink) l.session.state;
  faults : g.K.Sink.faults l.sink ≡ g.K.Sink.faults l.fn.sink;
}
