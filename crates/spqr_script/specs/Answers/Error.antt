-- The text of the answer to a command that is refused.
use Rattle.std.specs.Prelude.{ℕ, List, ◌++◌, codes, decimal}
use Rattle.spqr_script.specs.Text.{spaced_numbers, line_end}

-- `error CODE N N ..`: a refused command, with the numbers of its code
abbrev pub error_text : ℕ → List ℕ → List ℕ
error_text code numbers = codes "error " ++ decimal code ++ spaced_numbers numbers ++ line_end
