-- What a hasher is given of the ids of nodes.
use Rattle.std.specs.Prelude.{ℕ, List, [], ◌∷◌, ◌++◌, codes}
use Rattle.std.specs.Hash as fed
use Rattle.gml_text.specs.Document.{Document}
use Rattle.gml_graph.specs.Lists.{first_under}
use Rattle.gml_graph.specs.declared.integers.Reading.{Reading}
use Rattle.gml_graph.specs.declared.integers.Reading.TheVariants.{Missing, NotWhole, Whole}

-- the writes for a number, where there is one
abbrev pub number_writes : Reading → List (List ℕ)
number_writes Missing = []
number_writes NotWhole = []
number_writes (Whole id) = fed.i64 id

-- the writes for the ids of nodes, in order
abbrev pub id_writes : List Document → List (List ℕ)
id_writes [] = []
id_writes (node ∷ nodes) = number_writes (first_under (codes "id") node) ++ id_writes nodes
