-- The document that a list of pairs is.
use Rattle.std.specs.Prelude.{ℕ, List, [], ◌∷◌}
use Rattle.gml_text.specs.Document.{Document, empty, number, string, list}
use Rattle.gml_text.specs.declared.document.Pair.{Pair}
use Rattle.gml_text.specs.declared.document.Value.{Value}
use Rattle.gml_text.specs.declared.document.Value.TheVariants.{Num, Str, List as Inner}

-- a pair of this key and value, and the pairs after it
abbrev pub pair_before : List ℕ → Value → Document → Document
pair_before key (Num text) rest = number key text rest
pair_before key (Str text) rest = string key text rest
pair_before key (Inner inner) rest = list key inner rest

-- the pairs of a list, in order
abbrev pub document_of : List Pair → Document
document_of [] = empty
document_of (pair ∷ pairs) = pair_before pair.key pair.value (document_of pairs)
