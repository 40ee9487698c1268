-- The grammar of GML: which bytes spell a document. Each relation is between the bytes and the rest of them that
-- follows what it describes.
use Rattle.std.specs.Prelude.{◌≡◌, ℕ, Bool, true, false, cond, ◌&&◌, ◌==◌, List, [], ◌∷◌, ◌++◌}
use Rattle.std.specs.List.{list_all}
use Rattle.gml_text.specs.Bytes.{is_white, is_line_end, is_letter, is_key_byte, ends_word, is_no_quote}
use Rattle.gml_text.specs.Number.{IsNumber}
use Rattle.gml_text.specs.Document.{Document, empty, number, string, list, IsWithinDepth}

-- a run of whitespace and comments. A comment goes from `#` to the byte before the first line end; only at the end of the
-- input, where `last` is true, may the line end be missing
abbrev mutual
  pub is_gap : (last : Bool) → List ℕ → Bool
  is_gap last [] = true
  is_gap last (b ∷ bs) = cond (is_white b) (is_gap last bs) (b == 35 && is_comment last bs)

  pub is_comment : (last : Bool) → List ℕ → Bool
  is_comment last [] = last
  is_comment last (b ∷ bs) = cond (is_line_end b) (is_gap last bs) (is_comment last bs)

-- after a gap comes this text, and then the rest
pub record Stands (text bytes rest : List ℕ) : Type 0 where
  pub gap : List ℕ
  pub whole : bytes ≡ gap ++ (text ++ rest)
  pub is_gap : is_gap false gap ≡ true

-- what follows a key or a number: the end, or a byte that ends it
abbrev pub is_behind_word : List ℕ → Bool
is_behind_word [] = true
is_behind_word (b ∷ bs) = ends_word b

-- a letter, then letters, digits and `_`
abbrev pub is_key : List ℕ → Bool
is_key [] = false
is_key (b ∷ bs) = is_letter b && list_all is_key_byte bs

-- the next token is this key
pub record KeyStands (key bytes rest : List ℕ) : Type 0 where
  pub stands : Stands key bytes rest
  pub is_key : is_key key ≡ true
  pub ends : is_behind_word rest ≡ true

-- the next token is this number
pub record NumberStands (text bytes rest : List ℕ) : Type 0 where
  pub stands : Stands text bytes rest
  pub is_number : IsNumber text
  pub ends : is_behind_word rest ≡ true

-- the next token is a string with these bytes between its quotes
pub record StringStands (text bytes rest : List ℕ) : Type 0 where
  pub stands : Stands (34 ∷ (text ++ (34 ∷ []))) bytes rest
  pub no_quote : list_all is_no_quote text ≡ true

-- the next token is `[`
abbrev pub OpenStands : List ℕ → List ℕ → Type 0
OpenStands bytes rest = Stands (91 ∷ []) bytes rest

-- the next token is `]`
abbrev pub CloseStands : List ℕ → List ℕ → Type 0
CloseStands bytes rest = Stands (93 ∷ []) bytes rest

-- the pairs of a document, one after another: a key, then a number, a string, or pairs in brackets
abbrev pub PairsStand : Document → List ℕ → List ℕ → Type 0
PairsStand empty bytes rest = bytes ≡ rest
PairsStand (number key text more) bytes rest =
    (value behind : List ℕ) × KeyStands key bytes value × NumberStands text value behind × PairsStand more behind rest
PairsStand (string key text more) bytes rest =
    (value behind : List ℕ) × KeyStands key bytes value × StringStands text value behind × PairsStand more behind rest
PairsStand (list key inner more) bytes rest =
    (value within close behind : List ℕ)
    × KeyStands key bytes value × OpenStands value within × PairsStand inner within close × CloseStands close behind × PairsStand more behind rest

-- the bytes are the pairs of this document and a gap after them, with lists nested within the limit
pub record Spells (bytes : List ℕ) (d : Document) : Type 0 where
  pub rest : List ℕ
  pub pairs : PairsStand d bytes rest
  pub gap : is_gap true rest ≡ true
  pub depth : IsWithinDepth d
