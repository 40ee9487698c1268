-- Moves of one block made in one pass: the block that is in its place then.
use Rattle.std.specs.Prelude.{◌≡◌, ℕ, List, map, slice_set, Option, None, Some, ⊤}
use Rattle.skeletons.specs.Moves.{Move}
use Rattle.skel_embed.specs.Values.{as_move}
use Rattle.undo_log.specs.declared.step.BlockMove.{BlockMove}
use Rattle.undo_log.specs.declared.step.Step.{Step}
use Rattle.undo_log.specs.declared.step.Step.TheVariants.{Moves, Mirror, Lock}
use Rattle.spqr_session.specs.State.{Embedding}
use Rattle.spqr_session.specs.Embedded.{BlockView, view_tree, view_entry}
use Rattle.spqr_session.specs.History.{as_pairs, pairs_moved}
use Rattle.spqr_session.specs.Board.{CanReplace}
use Rattle.spqr_session.specs.declared.at_once.MadeBlock.{MadeBlock}

-- the moves without their blocks
abbrev pub moves_of : List BlockMove → List Move
moves_of moves = map (λ m. as_move m.one) moves

-- all moves are of block b
abbrev pub AreOfBlock : ℕ → List BlockMove → Type 0
AreOfBlock b moves = as_pairs moves ≡ map (λ move. (b, move)) (moves_of moves)

-- the block can take the place of its block, and what the moves make of the blocks is that it does
pub record IsMadeBlock (views : List BlockView) (pairs : List (ℕ × Move)) (m : MadeBlock) : Type 0 where
  pub entry : Embedding
  pub replaces : CanReplace views m.block entry m.plane
  pub made : pairs_moved (map view_tree views) pairs (map view_entry views) ≡ slice_set (map view_entry views) m.block (Some (record { rotation = m.plane.rotation; locks = m.plane.locks }))

-- if there is one, it is so
abbrev pub IsMadeOf : List BlockView → List (ℕ × Move) → Option MadeBlock → Type 0
IsMadeOf views pairs None = ⊤
IsMadeOf views pairs (Some m) = IsMadeBlock views pairs m

-- it is what a step makes of a block
abbrev pub IsMadeForth : List BlockView → Step → Option MadeBlock → Type 0
IsMadeForth views (Moves forth back cuts) made = IsMadeOf views (as_pairs forth) made
IsMadeForth views (Mirror b cuts) made = ⊤
IsMadeForth views (Lock b k before after) made = ⊤

-- or what it is taken back to
abbrev pub IsMadeBack : List BlockView → Step → Option MadeBlock → Type 0
IsMadeBack views (Moves forth back cuts) made = IsMadeOf views (as_pairs back) made
IsMadeBack views (Mirror b cuts) made = ⊤
IsMadeBack views (Lock b k before after) made = ⊤
