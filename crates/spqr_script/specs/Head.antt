-- The lines of the head: the graph, its vertices with their ids, its cut vertices and its blocks.
use Rattle.std.specs.Prelude.{ℕ, ℤ, List, ◌++◌, codes, decimal}
use Rattle.std.specs.Fmt.{signed_decimal}
use Rattle.spqr_script.specs.Text.{spaced_numbers, line_end}

-- `graph N M`: how many vertices and edges there are
abbrev pub graph_text : ℕ → ℕ → List ℕ
graph_text n m = codes "graph " ++ decimal n ++ codes " " ++ decimal m ++ line_end

-- `vertex V ID`: a vertex and its id in the file
abbrev pub vertex_text : ℕ → ℤ → List ℕ
vertex_text v id = codes "vertex " ++ decimal v ++ codes " " ++ signed_decimal id ++ line_end

-- `cut V`: a cut vertex
abbrev pub cut_text : ℕ → List ℕ
cut_text v = codes "cut " ++ decimal v ++ line_end

-- `block B: E E ..`: a block and its edges
abbrev pub block_text : ℕ → List ℕ → List ℕ
block_text b edges = codes "block " ++ decimal b ++ codes ":" ++ spaced_numbers edges ++ line_end

-- `planar B`: the block has a plane rotation system
abbrev pub planar_text : ℕ → List ℕ
planar_text b = codes "planar " ++ decimal b ++ line_end
