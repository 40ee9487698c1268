-- The text of the answer to `gml`.
use Rattle.std.specs.Prelude.{ℕ, List, ◌++◌, length, codes, decimal}
use Rattle.spqr_script.specs.Text.{line_end}

-- `gml T` and the T bytes of the written document
abbrev pub document_text : List ℕ → List ℕ
document_text written = codes "gml " ++ decimal (length written) ++ line_end ++ written
