-- The lines of a block that is not planar: a subdivision of K5 or K3,3 in it.
use Rattle.std.specs.Prelude.{ℕ, List, [], ◌∷◌, ◌++◌, map, slice_index, codes, decimal}
use Rattle.multigraph.specs.Part.{GraphPart}
use Rattle.kuratowski.specs.Subdivision.{branch_at, pattern_edges}
use Rattle.kuratowski.specs.declared.subdivision.Pattern.{Pattern}
use Rattle.kuratowski.specs.declared.subdivision.Pattern.TheVariants.{K5, K33}
use Rattle.spqr_script.specs.Text.{spaced_numbers, line_end}

-- the word for a pattern
abbrev pub pattern_word : Pattern → List ℕ
pattern_word K5 = codes "K5"
pattern_word K33 = codes "K33"

-- `path U W: E E ..`: the ends of a path and its edges from the first end on, in the numbers of the whole graph
abbrev pub path_text : GraphPart → ℕ → ℕ → List ℕ → List ℕ
path_text part u w path =
    codes "path " ++ decimal (slice_index part.vertices u) ++ codes " " ++ decimal (slice_index part.vertices w) ++ codes ":"
    ++ spaced_numbers (map (slice_index part.edges) path) ++ line_end

-- the lines of paths, one for each of the pairs of branch vertices
abbrev pub path_texts : GraphPart → List ℕ → List (ℕ × ℕ) → List (List ℕ) → List ℕ
path_texts part branch [] paths = []
path_texts part branch (pair ∷ pairs) [] = []
path_texts part branch (pair ∷ pairs) (path ∷ paths) =
    path_text part (branch_at branch pair.0) (branch_at branch pair.1) path ++ path_texts part branch pairs paths

-- `nonplanar B K5 V ..` or `nonplanar B K33 V ..` with the branch vertices, and the line of the path for each edge of the pattern
abbrev pub nonplanar_text : GraphPart → ℕ → Pattern → List ℕ → List (List ℕ) → List ℕ
nonplanar_text part b kind branch paths =
    codes "nonplanar " ++ decimal b ++ codes " " ++ pattern_word kind ++ spaced_numbers (map (slice_index part.vertices) branch) ++ line_end
    ++ path_texts part branch (pattern_edges kind) paths
