-- Prefixes of documents, and the place where no document continues.
use Rattle.std.specs.Prelude.{ℕ, ◌≤◌, List, ◌++◌, length, take}
use Rattle.gml_text.specs.Document.{Document}
use Rattle.gml_text.specs.Grammar.{Spells}

-- followed by some bytes, these spell a document
abbrev pub Front : List ℕ → Type 0
Front front = (more : List ℕ) × (d : Document) × Spells (front ++ more) d

-- the longest prefix of the bytes with which some document begins has this length
pub record At (bytes : List ℕ) (at : ℕ) : Type 0 where
  pub within : at ≤ length bytes
  pub front : Front (take at bytes)
  pub longest : (n : ℕ) → n ≤ length bytes → Front (take n bytes) → n ≤ at
