-- The texts of the answers to commands that change an embedding.
use Rattle.std.specs.Prelude.{ℕ, List, codes}

-- `ok`: a change was made
abbrev pub ok_text : List ℕ
ok_text = codes "ok\n"

-- `end`: no member follows
abbrev pub end_text : List ℕ
end_text = codes "end\n"
