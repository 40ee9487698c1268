-- What of a report was written.
use Rattle.std.specs.Prelude.{ℕ, ◌⊎◌, List, Option, Result, Ok, Err, take}
use Rattle.std.specs.List.{concat}
use Rattle.std.specs.Io.KnownBytes.{Appends, Keeps}
use Rattle.spqr_edge.specs.declared.Failed.{Failed}
use Rattle.spqr_script.specs.declared.command.Command.{Command}
use Rattle.spqr_session.specs.Setting.{Setting}
use Rattle.spqr_session.specs.State.{State}
use Rattle.spqr_session.specs.Step.{IsChain}
use Rattle.spqr_session.specs.Report.{IsReport}
use Rattle.spqr_run.specs.Front.{AppendsFront}
use Rattle.spqr_run.specs.declared.halt.Halt.{Halt}
use Rattle.spqr_run.specs.declared.halt.Halt.TheVariants.{Refused, Memory as OutOfMemory}

-- all answers of the commands were written, from the one state to the other
pub record WritesAll (setting : Setting) (start : State) (commands : List Command) (before now : Option (List ℕ)) (last : State) : Type 0 where
  pub texts : List (List ℕ)
  pub answers : IsChain setting start commands texts last
  pub written : Appends before now (concat texts)

-- a prefix of the answers of the commands was written
pub record WritesFront (setting : Setting) (start : State) (commands : List Command) (before now : Option (List ℕ)) : Type 0 where
  pub last : State
  pub texts : List (List ℕ)
  pub answers : IsChain setting start commands texts last
  pub written : AppendsFront before now (concat texts)

-- the answers of commands were written: all; a prefix of the first ones, where a put failed; the first ones, where memory ran out
abbrev pub WritesAnswers : {T : Type 0} → Setting → State → List Command → Option (List ℕ) → Option (List ℕ) → Result T (Halt Failed) → Type 0
WritesAnswers setting start commands before now (Ok _) = (last : State) × WritesAll setting start commands before now last
WritesAnswers setting start commands before now (Err (Refused _)) = (k : ℕ) × WritesFront setting start (take k commands) before now
WritesAnswers setting start commands before now (Err OutOfMemory) = (k : ℕ) × (last : State) × WritesAll setting start (take k commands) before now last

-- a report was written whole
pub record AppendsReport (setting : Setting) (commands : List Command) (before now : Option (List ℕ)) : Type 0 where
  pub text : List ℕ
  pub report : IsReport setting commands text
  pub written : Appends before now text

-- a prefix of a report was written
pub record AppendsReportFront (setting : Setting) (commands : List Command) (before now : Option (List ℕ)) : Type 0 where
  pub text : List ℕ
  pub report : IsReport setting commands text
  pub written : AppendsFront before now text

-- a report was written: whole; a prefix of the report on the first commands, for some number of them, where a put failed; nothing or the
-- report on the first commands, where memory ran out
abbrev pub WritesReport : {T : Type 0} → Setting → List Command → Option (List ℕ) → Option (List ℕ) → Result T (Halt Failed) → Type 0
WritesReport setting commands before now (Ok _) = AppendsReport setting commands before now
WritesReport setting commands before now (Err (Refused _)) = (k : ℕ) × AppendsReportFront setting (take k commands) before now
WritesReport setting commands before now (Err OutOfMemory) = Keeps before now ⊎ ((k : ℕ) × AppendsReport setting (take k commands) before now)
