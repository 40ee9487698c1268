use Rattle.std.proofs.Common.{◌≡◌, ◌+◌, ◌≤◌, length}
use Rattle.spqr_script.specs.Line.{lines_of}
use Rattle.spqr_script.specs.Reading.{commands_from}
use Rattle.spqr_script.proofs.Loops.{commands_behind}
use Rattle.spqr_script.proofs.reader.read_lines.Given as goal

abbrev pub invariant-loop-rest : goal.invariant-loop-rest
invariant-loop-rest l =
    (commands_behind l.commands.items (commands_from (l.line + 1) (lines_of l.rest)) ≡ commands_from 1 (lines_of l.bytes)) × (l.line + length l.rest ≤ length l.bytes)

abbrev pub decreases-loop-rest : goal.decreases-loop-rest
decreases-loop-rest l = length l.rest
