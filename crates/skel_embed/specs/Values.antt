-- Moves as values of the program, read as moves of the theory.
use Rattle.std.specs.Prelude.{List, map}
use Rattle.skeletons.specs.Moves as theory
use Rattle.moves.specs.declared.values.Move.{Move}
use Rattle.moves.specs.declared.values.Move.TheVariants.{Flip, Permute}

-- the move that a value means
abbrev pub as_move : Move → theory.Move
as_move (Flip k) = theory.flip k
as_move (Permute k keys) = theory.permute k keys

-- those of a list
abbrev pub as_moves : List Move → List theory.Move
as_moves moves = map as_move moves
