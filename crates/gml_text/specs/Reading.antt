-- What comes next, as it is read.
use Rattle.std.specs.Prelude.{◌≡◌, ℕ, ◌⊎◌, true, cond, ◌==◌, List, [], ◌∷◌, ◌++◌}
use Rattle.std.specs.List.{list_all}
use Rattle.gml_text.specs.Bytes.{is_white, is_line_end, is_word_byte, is_no_quote}
use Rattle.gml_text.specs.Grammar.{is_behind_word}

-- what is left after the longest gap
abbrev mutual
  pub after_gap : List ℕ → List ℕ
  after_gap [] = []
  after_gap (b ∷ bs) = cond (is_white b) (after_gap bs) (cond (b == 35) (after_comment bs) (b ∷ bs))

  pub after_comment : List ℕ → List ℕ
  after_comment [] = []
  after_comment (b ∷ bs) = cond (is_line_end b) (after_gap bs) (after_comment bs)

-- the longest prefix without a byte that ends a word
pub record IsWord (word bytes rest : List ℕ) : Type 0 where
  pub whole : bytes ≡ word ++ rest
  pub is_word : list_all is_word_byte word ≡ true
  pub ends : is_behind_word rest ≡ true

-- what is before the first quote, and what is after it
pub record IsQuoted (text bytes rest : List ℕ) : Type 0 where
  pub whole : bytes ≡ text ++ (34 ∷ rest)
  pub no_quote : list_all is_no_quote text ≡ true

-- the same byte comes first
pub record BeginAlike (one two : List ℕ) : Type 0 where
  pub first : ℕ
  pub more : List ℕ
  pub rest : List ℕ
  pub of_one : one ≡ first ∷ more
  pub of_two : two ≡ first ∷ rest

-- bytes that may follow a token instead of the rest: their first byte is that of the rest, or they continue no word
abbrev pub Follows : List ℕ → List ℕ → Type 0
Follows bytes rest = (is_behind_word bytes ≡ true) ⊎ BeginAlike bytes rest
