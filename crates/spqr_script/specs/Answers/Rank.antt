-- The text of the answer to `rank`.
use Rattle.std.specs.Prelude.{ℕ, List, ◌++◌, codes, decimal}
use Rattle.spqr_script.specs.Text.{line_end}

-- `rank R`: the place of the current member in the block's list
abbrev pub rank_text : ℕ → List ℕ
rank_text r = codes "rank " ++ decimal r ++ line_end
