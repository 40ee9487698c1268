-- The text of the answer to `count`.
use Rattle.std.specs.Prelude.{ℕ, List, ◌++◌, codes, decimal}
use Rattle.spqr_script.specs.Text.{line_end}

-- `count C`: how many members a block's list has
abbrev pub count_text : ℕ → List ℕ
count_text c = codes "count " ++ decimal c ++ line_end
