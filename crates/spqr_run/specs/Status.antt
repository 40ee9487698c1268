-- The numbers of statuses.
use Rattle.std.specs.Prelude.{ℕ}
use Rattle.spqr_run.specs.declared.status.Status.{Status}
use Rattle.spqr_run.specs.declared.status.Status.TheVariants.{Done, Usage, ReadFault, TooLong, GmlRefused, GraphRefused, ScriptRefused, WriteFault, Memory}

-- the exit status of the program
abbrev pub status_number : Status → ℕ
status_number Done = 0
status_number Usage = 1
status_number ReadFault = 2
status_number TooLong = 3
status_number GmlRefused = 4
status_number GraphRefused = 5
status_number ScriptRefused = 6
status_number WriteFault = 7
status_number Memory = 8
