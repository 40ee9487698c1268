-- The words that the program is called with, and the files that they name.
use Rattle.std.specs.Prelude.{ℕ, List, Option, None, Some, option_and_then}
use Rattle.command_words.specs.Form.{Asked, Run, Make, form_of}

-- the names of the graph file and of the script file
pub record Names : Type 0 where
  pub graph : List ℕ
  pub script : List ℕ

-- the names of the files on which a report is asked for; a summary is asked for on none
abbrev pub names_in : Asked → Option Names
names_in (Run graph script) = Some (record { graph = graph; script = script })
names_in (Make n seed) = None

-- the names in the words `run GRAPH SCRIPT`; other words name no files
abbrev pub names_of : List (List ℕ) → Option Names
names_of words = option_and_then names_in (form_of words)
