-- The lines around the members that `list` prints.
use Rattle.std.specs.Prelude.{ℕ, List, ◌++◌, codes, decimal}
use Rattle.spqr_script.specs.Text.{line_end}

-- `list B T`: how many members of the block's list follow
abbrev pub list_text : ℕ → ℕ → List ℕ
list_text b t = codes "list " ++ decimal b ++ codes " " ++ decimal t ++ line_end

-- `more`: a member follows the last one printed
abbrev pub more_text : List ℕ
more_text = codes "more\n"
