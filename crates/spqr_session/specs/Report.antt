-- The report: the head, and then the answer of each command in the script's order.
use Rattle.std.specs.Prelude.{◌≡◌, ℕ, List, ◌∷◌}
use Rattle.std.specs.List.{concat}
use Rattle.spqr_script.specs.declared.command.Command.{Command}
use Rattle.spqr_session.specs.Setting.{Setting}
use Rattle.spqr_session.specs.State.{State, IsStart}
use Rattle.spqr_session.specs.Step.{IsChain}
use Rattle.spqr_session.specs.Head.{head_text}

-- a report on the commands: the head, and then the texts of a chain of steps from a start
pub record IsReport (setting : Setting) (commands : List Command) (text : List ℕ) : Type 0 where
  pub start : State
  pub last : State
  pub texts : List (List ℕ)
  pub starts : IsStart setting start
  pub answers : IsChain setting start commands texts last
  pub whole : text ≡ concat (head_text setting ∷ texts)
