use Rattle.std.proofs.Common.{◌≡◌, ◌++◌, map, drop}
use Rattle.std.specs.List.{concat}
use Rattle.spqr_session.specs.WholeSteps.{line_in, lines_in}
use Rattle.spqr_session.proofs.commands.convert_whole.steps_lines.Given as goal

abbrev pub invariant-loop-step : goal.invariant-loop-step
invariant-loop-step l = l.text.items ++ concat (map (line_in l.blocks) (drop l.step-index l.steps)) ≡ lines_in l.blocks l.steps
