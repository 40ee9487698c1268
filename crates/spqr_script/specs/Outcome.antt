-- What the reader of scripts returns.
use Rattle.std.specs.Prelude.{◌≡◌, ℕ, List, Result, Ok, Err}
use Rattle.std.specs.Global.{Vec}
use Rattle.spqr_script.specs.Script.{Commands, IsFirstBadLine}
use Rattle.spqr_script.specs.declared.command.Command.{Command}
use Rattle.spqr_script.specs.declared.command.ScriptFault.{ScriptFault}
use Rattle.spqr_script.specs.declared.command.ScriptFault.TheVariants.{BadLine, Memory}

-- a result is these commands, or out of memory
abbrev pub IsReading : Result (Vec Command) ScriptFault → List Command → Type 0
IsReading (Ok read) commands = read.items ≡ commands
IsReading (Err (BadLine line)) commands = ⊥
IsReading (Err Memory) commands = Unit {0}

-- a fault of a script: its first bad line, and then it spells no commands; or out of memory
abbrev pub IsFault : List ℕ → ScriptFault → Type 0
IsFault bytes (BadLine line) = IsFirstBadLine bytes line × ((commands : List Command) → Commands bytes commands → ⊥)
IsFault bytes Memory = Unit {0}
