-- The text of the answer to `draw`.
use Rattle.std.specs.Prelude.{ℕ, List, [], ◌∷◌, ◌++◌, length, codes, decimal}
use Rattle.multigraph.specs.Part.{GraphPart}
use Rattle.spqr_script.specs.Text.{line_end}

-- `point V X Y`: a vertex and the coordinates of its point
abbrev pub point_text : ℕ → ℕ × ℕ → List ℕ
point_text v point = codes "point " ++ decimal v ++ codes " " ++ decimal point.0 ++ codes " " ++ decimal point.1 ++ line_end

-- the lines of some vertices and their points, in order
abbrev pub point_texts : List ℕ → List (ℕ × ℕ) → List ℕ
point_texts [] points = []
point_texts (v ∷ vertices) [] = []
point_texts (v ∷ vertices) (point ∷ points) = point_text v point ++ point_texts vertices points

-- `draw B T` and a line for each of the T vertices of a block, in the numbers of the whole graph
abbrev pub draw_text : GraphPart → ℕ → List (ℕ × ℕ) → List ℕ
draw_text part b points = codes "draw " ++ decimal b ++ codes " " ++ decimal (length points) ++ line_end ++ point_texts part.vertices points
