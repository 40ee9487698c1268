use Rattle.std.proofs.Common.{◌≡◌, length}
use Rattle.spqr_run.proofs.Fronts.{AppendsAllBut}
use Rattle.spqr_run.proofs.writing.put_text.Given as goal

abbrev pub invariant-loop-rest : goal.invariant-loop-rest
invariant-loop-rest g l = AppendsAllBut (g.K.Sink.written l.fn.sink) (g.K.Sink.written l.sink) l.text l.rest × (g.K.Sink.faults l.sink ≡ g.K.Sink.faults l.fn.sink)

abbrev pub decreases-loop-rest : goal.decreases-loop-rest
decreases-loop-rest g l = length l.rest
