use Rattle.std.proofs.Common.{◌≡◌, ◌++◌, drop}
use Rattle.spqr_script.specs.Answers.Moves.{move_texts}
use Rattle.spqr_script.proofs.answers.move_list.push_moves.Given as goal

abbrev pub invariant-loop-step : goal.invariant-loop-step
invariant-loop-step l = l.out.items ++ move_texts l.part (drop l.step-index l.ms) ≡ l.initial.out.items ++ move_texts l.part l.ms
