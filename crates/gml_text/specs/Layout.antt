-- The one layout in which documents are written: `key number`, `key "string"`, or `key [`, the lines of the list, and `]`.
use Rattle.std.specs.Prelude.{ℕ, ◌+◌, ◌*◌, List, [], ◌∷◌, ◌++◌, replicate}
use Rattle.gml_text.specs.Document.{Document, empty, number, string, list}

-- two spaces for each list around a pair
abbrev pub indent : ℕ → List ℕ
indent lists = replicate (2 * lists) 32

-- the key, a space, the number, and the end of the line
abbrev pub number_line : ℕ → List ℕ → List ℕ → List ℕ
number_line lists key text = indent lists ++ key ++ (32 ∷ text) ++ (10 ∷ [])

-- the same with the string between quotes
abbrev pub string_line : ℕ → List ℕ → List ℕ → List ℕ
string_line lists key text = indent lists ++ key ++ (32 ∷ 34 ∷ text) ++ (34 ∷ 10 ∷ [])

-- the same with an opening bracket
abbrev pub open_line : ℕ → List ℕ → List ℕ
open_line lists key = indent lists ++ key ++ (32 ∷ 91 ∷ 10 ∷ [])

-- a closing bracket under the key
abbrev pub close_line : ℕ → List ℕ
close_line lists = indent lists ++ (93 ∷ 10 ∷ [])

-- the lines of the pairs within this many lists
abbrev pub lines : ℕ → Document → List ℕ
lines lists empty = []
lines lists (number key text rest) = number_line lists key text ++ lines lists rest
lines lists (string key text rest) = string_line lists key text ++ lines lists rest
lines lists (list key inner rest) = open_line lists key ++ lines (lists + 1) inner ++ close_line lists ++ lines lists rest

-- the text of a document
abbrev pub written : Document → List ℕ
written d = lines 0 d
