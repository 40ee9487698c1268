-- The text of the answer to `longest`.
use Rattle.std.specs.Prelude.{ℕ, List, ◌++◌, codes, decimal}
use Rattle.multigraph.specs.Part.{GraphPart}
use Rattle.moves.specs.declared.values.Move.{Move}
use Rattle.spqr_script.specs.Text.{line_end}
use Rattle.spqr_script.specs.Answers.Moves.{moves_text}

-- `longest LEN`, the length of a face, and then `moves T` and a line for each of the T moves
abbrev pub longest_text : GraphPart → ℕ → List Move → List ℕ
longest_text part len moves = codes "longest " ++ decimal len ++ line_end ++ moves_text part moves
