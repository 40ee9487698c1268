-- The lines of the summary.
use Rattle.std.specs.Prelude.{ℕ, ◌^◌, nat_lt, if◌then◌else◌, Option, Some, None, List, [], ◌∷◌, ◌++◌, codes, decimal}
pub use Rattle.decimals.specs.Text.{spaced_numbers}

-- how many vertices and edges
abbrev pub made_line : ℕ → ℕ → List ℕ
made_line v e = codes "made " ++ decimal v ++ codes " " ++ decimal e ++ codes "\n"

-- how many polygons, bonds and triconnected nodes
abbrev pub nodes_line : ℕ → ℕ → ℕ → List ℕ
nodes_line s p r = codes "nodes S " ++ decimal s ++ codes " P " ++ decimal p ++ codes " R " ++ decimal r ++ codes "\n"

-- a number of plane rotation systems; `over` where it is not given
abbrev pub count_text : Option ℕ → List ℕ
count_text (Some n) = codes "count " ++ decimal n ++ codes "\n"
count_text None = codes "count over\n"

-- the number, where it is below 2^128
abbrev pub fitting : ℕ → Option ℕ
fitting n = (if nat_lt n (2 ^ 128) then Some n else None)

-- how many plane rotation systems; `over` from 2^128 on
abbrev pub count_line : ℕ → List ℕ
count_line n = count_text (fitting n)

-- a node and its choice, at the first or at the last member of the list
abbrev pub choice_line : List ℕ → ℕ → List ℕ → List ℕ
choice_line word k keys = word ++ decimal k ++ codes ":" ++ spaced_numbers keys ++ codes "\n"
