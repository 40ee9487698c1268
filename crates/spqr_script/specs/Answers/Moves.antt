-- The text of the answer to `convert`.
use Rattle.std.specs.Prelude.{ℕ, ◌<◌, List, [], ◌∷◌, ◌++◌, length, map, slice_index, codes, decimal, All}
use Rattle.multigraph.specs.Graph.{Multigraph, edge_count}
use Rattle.multigraph.specs.Part.{GraphPart}
use Rattle.moves.specs.declared.values.Move.{Move}
use Rattle.moves.specs.declared.values.Move.TheVariants.{Flip, Permute}
use Rattle.spqr_script.specs.Text.{spaced_numbers, line_end}

-- `flip K` or `permute K KEY ..`: a move of a node, its keys in the numbers of the whole graph
abbrev pub move_text : GraphPart → Move → List ℕ
move_text part (Flip k) = codes "flip " ++ decimal k ++ line_end
move_text part (Permute k keys) = codes "permute " ++ decimal k ++ spaced_numbers (map (slice_index part.edges) keys) ++ line_end

-- the lines of some moves, in order
abbrev pub move_texts : GraphPart → List Move → List ℕ
move_texts part [] = []
move_texts part (move ∷ moves) = move_text part move ++ move_texts part moves

-- `moves T`: how many moves follow, each on a line
abbrev pub move_count_text : ℕ → List ℕ
move_count_text t = codes "moves " ++ decimal t ++ line_end

-- `moves T` and a line for each of the T moves
abbrev pub moves_text : GraphPart → List Move → List ℕ
moves_text part moves = move_count_text (length moves) ++ move_texts part moves

-- the keys of a move are edges of g
abbrev pub IsMoveOf : Multigraph → Move → Type 0
IsMoveOf g (Flip k) = Unit {0}
IsMoveOf g (Permute k keys) = All (λ e. e < edge_count g) keys
