-- The text of the answer to `show`, which is also that of `list` for each member.
use Rattle.std.specs.Prelude.{ℕ, List, [], ◌∷◌, ◌++◌, map, slice_index, codes, decimal, ◌<◌, All}
use Rattle.std.specs.List.{zip}
use Rattle.multigraph.specs.Part.{GraphPart}
use Rattle.spqr_script.specs.Number.{index_limit}
use Rattle.spqr_script.specs.Text.{spaced_numbers, line_end}

-- the vertex and the edges of an entry are numbers that the script can name
abbrev pub IsIndexEntry : ℕ × List ℕ → Type 0
IsIndexEntry entry = (entry.0 < index_limit) × All (λ e. e < index_limit) entry.1

-- `V: E ..`: a vertex and the edges around it
abbrev pub entry_text : ℕ × List ℕ → List ℕ
entry_text entry = decimal entry.0 ++ codes ":" ++ spaced_numbers entry.1

-- the entries in order, these bytes before the first and `; ` before each other
abbrev pub entries_text : List ℕ → List (ℕ × List ℕ) → List ℕ
entries_text before [] = []
entries_text before (entry ∷ entries) = before ++ entry_text entry ++ entries_text (codes "; ") entries

-- a rotation system of a part as entries: its vertices in order, each with its cyclic order, in the numbers of the whole graph
abbrev pub outer_entries : GraphPart → List (List ℕ) → List (ℕ × List ℕ)
outer_entries part orders = zip part.vertices (map (map (slice_index part.edges)) orders)

-- `rotation B | V: E ..; V: E ..`: a rotation system of a block
abbrev pub rotation_text : GraphPart → ℕ → List (List ℕ) → List ℕ
rotation_text part b orders =
    codes "rotation " ++ decimal b ++ codes " |" ++ entries_text (codes " ") (outer_entries part orders) ++ line_end
