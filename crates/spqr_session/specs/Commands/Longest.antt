-- `longest B`: the greatest length of a face that a block can have, and moves that lead to one.
use Rattle.std.specs.Prelude.{◌≡◌, ℕ, List, map}
use Rattle.skeletons.specs.Moves as theory
use Rattle.long_face.specs.Longest.{IsLongest}
use Rattle.spqr_script.specs.Answers.Longest.{longest_text}
use Rattle.spqr_session.specs.Trees.{BlockTree}
use Rattle.spqr_session.specs.Setting.{Setting}
use Rattle.spqr_session.specs.State.{Embedding, State}
use Rattle.spqr_session.specs.BlockCodes.{no_more, ReadStep}
use Rattle.spqr_session.specs.Commands.Convert.{value_of}

-- the answer is the greatest length of a face over all plane rotation systems, and moves from the present one to one with such a face
abbrev pub IsLongestAnswer : BlockTree → Embedding → List ℕ → Type 0
IsLongestAnswer tree e text =
    (len : ℕ) × (moves : List theory.Move) × IsLongest tree.part.graph tree.nodes e.rotation len moves
    × (text ≡ longest_text tree.part len (map value_of moves))

-- one step: refused by codes 1 and 5; locks are not looked at
abbrev pub LongestStep : Setting → ℕ → State → List ℕ → State → Type 0
LongestStep setting b before text after = ReadStep no_more IsLongestAnswer setting.trees b before text after
