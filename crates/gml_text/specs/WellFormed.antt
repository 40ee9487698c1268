-- Documents that have a text.
use Rattle.std.specs.Prelude.{◌≡◌, true}
use Rattle.std.specs.List.{list_all}
use Rattle.gml_text.specs.Bytes.{is_no_quote}
use Rattle.gml_text.specs.Number.{IsNumber}
use Rattle.gml_text.specs.Grammar.{is_key}
use Rattle.gml_text.specs.Document.{Document, empty, number, string, list, IsWithinDepth}

-- each key is a key, each number a number, and no string has a quote in it
abbrev pub AreTokens : Document → Type 0
AreTokens empty = Unit {0}
AreTokens (number key text rest) = (is_key key ≡ true) × IsNumber text × AreTokens rest
AreTokens (string key text rest) = (is_key key ≡ true) × (list_all is_no_quote text ≡ true) × AreTokens rest
AreTokens (list key inner rest) = (is_key key ≡ true) × AreTokens inner × AreTokens rest

-- and lists are nested within the limit
pub record IsWellFormed (d : Document) : Type 0 where
  pub tokens : AreTokens d
  pub depth : IsWithinDepth d
