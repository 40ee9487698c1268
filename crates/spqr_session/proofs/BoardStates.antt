-- The state of a board, and what locks, undo and redo make of it.
use Rattle.std.proofs.Common.{◌≡◌, ℕ, ◌<◌, Bool, true, false, not, List, [], ◌∷◌, length, map, None, Some, refl, sym, ◌∙◌, subst, arith}
use Rattle.std.proofs.lemmas.Bool.{true≢false}
use Rattle.std.proofs.lemmas.List.{length-map}
use Rattle.spqr_script.specs.Answers.Change.{ok_text}
use Rattle.spqr_session.specs.Trees.{BlockTree}
use Rattle.spqr_session.specs.Setting.{Setting}
use Rattle.spqr_session.specs.State.{Embedding, entry_at}
use Rattle.spqr_session.specs.Kept.{Kept, family_of}
use Rattle.spqr_session.specs.Codes.{code_text, first_code}
use Rattle.spqr_session.specs.declared.code.Code.{Code}
use Rattle.spqr_session.specs.declared.code.Code.TheVariants.{NothingToUndo, NothingToRedo}
use Rattle.spqr_session.specs.BlockCodes.{node_ladder}
use Rattle.pair_split.specs.Kinds.{has_choices}
use Rattle.spqr_session.specs.Embedded.{view_tree, view_at}
use Rattle.spqr_session.specs.Commands.History.{is_none, undo_ladder, redo_ladder, Undoes, Redoes, UndoStep, RedoStep}
use Rattle.spqr_session.specs.Commands.Lock.{with_lock, LocksNode, LockStep}
use Rattle.spqr_session.specs.Scene.{setting_on}
use Rattle.spqr_session.specs.declared.scene.Scene.{Scene}
use Rattle.spqr_session.specs.Board.{BoardView, board_state, kept_with_entry, GoesTo, StandsAt, state_on, BelongTogether}
use Rattle.spqr_session.proofs.Views.{entries-at, trees-at}
use Rattle.spqr_session.proofs.Ladders.{rung-hit, refused-first, carried-out}
use Rattle.spqr_session.proofs.Changes.{NodeFacts, node-facts}
use Rattle.spqr_session.proofs.Plans.{seen_state, lock-seen}

-- a block that is there stands at the entry of the state
pub stands-at : (board : BoardView) (b : ℕ) (e : Embedding) → b < length board.views → entry_at (seen_state board).present b ≡ Some e → StandsAt board.views b e
stands-at board b e l p = record { within = l; entry = sym (entries-at board.views b) ∙ p }

-- ---- undo and redo

-- there are as many families as there is kept of them
none-seen : (setting : Setting) (ks : List Kept) → is_none (map (family_of setting) ks) ≡ is_none ks
none-seen setting [] = refl
none-seen setting (k ∷ ks) = refl

module _ (setting : Setting) (board : BoardView) where
  -- what is answered where nothing is earlier, or later
  pub undo-refused : (text : List ℕ) → is_none board.earlier ≡ true → text ≡ code_text NothingToUndo → UndoStep (board_state setting board) text (board_state setting board)
  undo-refused text e t = refused-first (undo_ladder (board_state setting board)) refl Undoes (board_state setting board) NothingToUndo text
      (rung-hit NothingToUndo (is_none (board_state setting board).earlier) [] (none-seen setting board.earlier ∙ e)) t

  pub redo-refused : (text : List ℕ) → is_none board.later ≡ true → text ≡ code_text NothingToRedo → RedoStep (board_state setting board) text (board_state setting board)
  redo-refused text e t = refused-first (redo_ladder (board_state setting board)) refl Redoes (board_state setting board) NothingToRedo text
      (rung-hit NothingToRedo (is_none (board_state setting board).later) [] (none-seen setting board.later ∙ e)) t

-- ---- locks

module _ (on : Bool) (board : BoardView) (b k : ℕ) where
  -- the line of the first code that applies
  pub lock-refused : (scene : Scene) (code : Code) (text : List ℕ) → first_code (node_ladder has_choices (map view_tree board.views) b k (seen_state board)) ≡ Some code → text ≡ code_text code
      → LockStep on (setting_on scene board.views) b k (state_on scene board.views board) text (state_on scene board.views board)
  lock-refused scene code text e t = refused-first (node_ladder has_choices (map view_tree board.views) b k (state_on scene board.views board)) refl (LocksNode on b k) (state_on scene board.views board) code text e t

  -- where none applies the block is there and planar, and has the node
  lock-facts : first_code (node_ladder has_choices (map view_tree board.views) b k (seen_state board)) ≡ None → NodeFacts has_choices (map view_tree board.views) b k (seen_state board)
  lock-facts none = (node-facts has_choices (map view_tree board.views) b k (seen_state board) [] none).0

  pub lock-stands : first_code (node_ladder has_choices (map view_tree board.views) b k (seen_state board)) ≡ None → (e : Embedding) × StandsAt board.views b e
  lock-stands none =
      let f = lock-facts none in
      (f.entry, stands-at board b f.entry (let l : b < length board.views = omega (arith, f.block, length-map board.views view_tree) in l) f.present)

  pub lock-node : first_code (node_ladder has_choices (map view_tree board.views) b k (seen_state board)) ≡ None → k < length (view_at board.views b).tree.nodes
  lock-node none = subst (λ (t : BlockTree). k < length t.nodes) (trees-at board.views b) (lock-facts none).node

  -- and the lock is set
  pub lock-done : (scene : Scene) → BelongTogether scene board → (after : BoardView) (text : List ℕ) → first_code (node_ladder has_choices (map view_tree board.views) b k (seen_state board)) ≡ None
      → ((e : Embedding) → StandsAt board.views b e → GoesTo board (kept_with_entry board.views board.lists b (with_lock k on e)) after) → text ≡ ok_text
      → LockStep on (setting_on scene board.views) b k (state_on scene board.views board) text (state_on scene board.views after)
  unfolding lock-facts lock-stands
  lock-done scene together after text none is t =
      let f = lock-facts none in
      let stands = (lock-stands none).1 in
      carried-out (node_ladder has_choices (map view_tree board.views) b k (state_on scene board.views board)) refl (LocksNode on b k) (state_on scene board.views board) text (state_on scene board.views after) none (record {
        old = f.entry;
        present = f.present;
        after_is = lock-seen scene board together b f.entry stands (with_lock k on f.entry) after refl (is f.entry stands);
        answer = t;
      })

-- whether something is earlier or later, from the answer to it
pub nothing-there : (answer none : Bool) → answer ≡ not none → answer ≡ false → none ≡ true
nothing-there answer true e n = refl
nothing-there answer false e n = absurd (true≢false (sym e ∙ n))
