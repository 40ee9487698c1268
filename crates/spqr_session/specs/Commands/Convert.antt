-- `convert B rank R` and `convert B to ROT`: the moves that lead to a member of a block's list, printed and made.
use Rattle.std.specs.Prelude.{◌≡◌, ℕ, List, map}
use Rattle.skeletons.specs.Moves as theory
use Rattle.moves.specs.declared.values.Move.{Move}
use Rattle.moves.specs.declared.values.Move.TheVariants.{Flip, Permute}
use Rattle.spqr_script.specs.Answers.Moves.{moves_text}
use Rattle.spqr_session.specs.Trees.{BlockTree}
use Rattle.spqr_session.specs.Setting.{Setting}
use Rattle.spqr_session.specs.State.{Embedding, State}
use Rattle.spqr_session.specs.Members.{WithCount, rank_codes, StandsAt}
use Rattle.spqr_session.specs.Codes.{Carries}
use Rattle.spqr_session.specs.BlockCodes.{read_ladder, ChangesBlock, ChangeStep}
use Rattle.spqr_session.specs.Commands.Take.{TakeApplies, IsTaken}

-- a move as a value of the program
abbrev pub value_of : theory.Move → Move
value_of (theory.flip k) = Flip k
value_of (theory.permute k keys) = Permute k keys

-- the lines of the moves from the old embedding to the new one: of each node, in increasing order, at which the choices differ
abbrev pub conversion_text : BlockTree → Embedding → Embedding → List ℕ
conversion_text tree old new = moves_text tree.part (map value_of (theory.moves_between tree.nodes old.rotation new.rotation))

-- the embedding is changed so, and the answer is the lines of the moves
abbrev pub WithMoves : (BlockTree → Embedding → Embedding → Type 0) → BlockTree → Embedding → Embedding → List ℕ → Type 0
WithMoves IsChange tree old new text = IsChange tree old new × (text ≡ conversion_text tree old new)

-- one step of `convert B rank R`: refused by codes 1, 5, 10 and 11
abbrev pub ConvertRankStep : Setting → ℕ → ℕ → State → List ℕ → State → Type 0
ConvertRankStep setting b r before text after = WithCount setting.trees b before (λ n. ChangeStep (read_ladder (rank_codes r n) setting.trees b before) (WithMoves (StandsAt r)) setting b before text after)

-- one step of `convert B to ROT`: refused as `take B ROT` is
abbrev pub ConvertToStep : Setting → ℕ → List (ℕ × List ℕ) → State → List ℕ → State → Type 0
ConvertToStep setting b entries before text after = Carries (TakeApplies setting.trees b entries before) (ChangesBlock setting b (WithMoves (IsTaken entries))) before text after
