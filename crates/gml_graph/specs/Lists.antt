-- What is under a key in a list of pairs. Keys are compared byte for byte.
use Rattle.std.specs.Prelude.{ℕ, ℤ, if◌then◌else◌, bytes_eq, List, [], ◌∷◌, Option, Some, None}
use Rattle.gml_text.specs.Document.{Document, empty, number, string, list}
use Rattle.gml_graph.specs.Number.{whole_number}
use Rattle.gml_graph.specs.declared.integers.Reading.{Reading}
use Rattle.gml_graph.specs.declared.integers.Reading.TheVariants.{Missing, NotWhole, Whole}

-- the lists under a key, in order; pairs with another key and values that are not lists are skipped
abbrev pub lists_under : List ℕ → Document → List Document
lists_under key empty = []
lists_under key (number k text rest) = lists_under key rest
lists_under key (string k text rest) = lists_under key rest
lists_under key (list k inner rest) = (if bytes_eq k key then inner ∷ lists_under key rest else lists_under key rest)

-- what a number gives where a whole number is wanted
abbrev pub reading_of : Option ℤ → Reading
reading_of None = NotWhole
reading_of (Some z) = Whole z

-- what the first pair under a key gives where a whole number is wanted
abbrev pub first_under : List ℕ → Document → Reading
first_under key empty = Missing
first_under key (number k text rest) = (if bytes_eq k key then reading_of (whole_number text) else first_under key rest)
first_under key (string k text rest) = (if bytes_eq k key then NotWhole else first_under key rest)
first_under key (list k inner rest) = (if bytes_eq k key then NotWhole else first_under key rest)
