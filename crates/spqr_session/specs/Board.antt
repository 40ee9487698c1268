-- The blocks of a session and the lists at its cut vertices, with what was kept before and after: what commands change.
use Rattle.std.specs.Prelude.{◌≡◌, ℕ, ◌<◌, true, List, [], ◌∷◌, ◌++◌, length, map, slice_index_or, slice_set, Option, None, Some}
use Rattle.permutations.specs.Members.{is_member}
use Rattle.rotations.specs.Runs.{mirror_image}
use Rattle.faces.specs.Euler.{IsPlaneSystem}
use Rattle.skeletons.specs.Moves.{Move, Lead}
use Rattle.skel_embed.specs.Block.{BlockState}
use Rattle.undo_log.specs.History as undo_log
use Rattle.undo_log.specs.declared.step.CutChange.{CutChange}
use Rattle.undo_log.specs.declared.step.Step.{Step}
use Rattle.spqr_session.specs.Trees.{BlockTree, tree_at}
use Rattle.spqr_session.specs.Setting.{Setting, IsSetting}
use Rattle.spqr_session.specs.State.{Embedding, State, IsState}
use Rattle.spqr_session.specs.Kept.{Kept, family_of}
use Rattle.spqr_session.specs.Embedded.{BlockView, view_tree, view_certificate, view_entry, view_at}
use Rattle.spqr_session.specs.Scene.{setting_on}
use Rattle.spqr_session.specs.declared.scene.Scene.{Scene}
use Rattle.spqr_session.specs.Moved.{AreOfNodes}
use Rattle.spqr_session.specs.History.{walk, redone, undone, lists_set, lists_cleared, list_after, list_before, steps_before, steps_after, IsStepOf, IsHistory}

-- the view of the blocks, the list that is kept at each vertex, and what was kept earlier and later, of each the nearest first
pub record BoardView : Type 0 where
  pub views : List BlockView
  pub lists : List (Option (List ℕ))
  pub earlier : List Kept
  pub later : List Kept

-- what is kept of the present family
abbrev pub kept_on : List BlockView → List (Option (List ℕ)) → Kept
kept_on views lists = record { entries = map view_entry views; lists = lists }

abbrev pub kept_now : BoardView → Kept
kept_now board = kept_on board.views board.lists

-- the state on a setting
abbrev pub board_state : Setting → BoardView → State
board_state setting board = record { present = family_of setting (kept_now board); earlier = map (family_of setting) board.earlier; later = map (family_of setting) board.later }

-- the change that removes a list at vertex v
abbrev pub removal : ℕ → Option (List ℕ) → List CutChange
removal v None = []
removal v (Some list) = record { vertex = v; before = Some list; after = None } ∷ []

-- the change that removes the list at vertex v, if there is one
abbrev pub clearing : List (Option (List ℕ)) → ℕ → List CutChange
clearing lists v = removal v (slice_index_or lists v None)

-- those at several vertices
abbrev pub clearings : List (Option (List ℕ)) → List ℕ → List CutChange
clearings lists [] = []
clearings lists (v ∷ vs) = clearing lists v ++ clearings lists vs

-- the changes remove the lists at these vertices, and lead back
pub record Clears (vertices : List ℕ) (lists : List (Option (List ℕ))) (cuts : List CutChange) : Type 0 where
  pub forth : lists_set (map list_after cuts) lists ≡ lists_cleared vertices lists
  pub back : lists_set (map list_before cuts) (lists_cleared vertices lists) ≡ lists

-- what is kept with this embedding of block b, and all else as it is
abbrev pub kept_with_entry : List BlockView → List (Option (List ℕ)) → ℕ → Embedding → Kept
kept_with_entry views lists b e = record { entries = slice_set (map view_entry views) b (Some e); lists = lists }

-- what is kept after a change of block b: this embedding of it, and no list at its vertices
abbrev pub kept_changed : List BlockView → List (Option (List ℕ)) → ℕ → Embedding → Kept
kept_changed views lists b e = kept_with_entry views (lists_cleared (view_at views b).tree.part.vertices lists) b e

-- the nearest earlier family is the present one, and the one that was present is the nearest later one
pub record IsUndone (before after : BoardView) : Type 0 where
  pub kept : Kept
  pub others : List Kept
  pub nearest : before.earlier ≡ kept ∷ others
  pub earlier : after.earlier ≡ others
  pub stands : kept_now after ≡ kept
  pub later : after.later ≡ kept_now before ∷ before.later

-- the nearest later family is the present one, and the one that was present is the nearest earlier one
pub record IsRedone (before after : BoardView) : Type 0 where
  pub kept : Kept
  pub others : List Kept
  pub nearest : before.later ≡ kept ∷ others
  pub later : after.later ≡ others
  pub stands : kept_now after ≡ kept
  pub earlier : after.earlier ≡ kept_now before ∷ before.earlier

-- the view of blocks and lists with a history: what was kept earlier is passed on the way back from the present, and what was kept later on
-- the way forward
abbrev pub board_view : List BlockView → List (Option (List ℕ)) → undo_log.History → BoardView
board_view views lists log = record {
  views = views;
  lists = lists;
  earlier = walk (undone (map view_tree views)) (kept_on views lists) (steps_before log);
  later = walk (redone (map view_tree views)) (kept_on views lists) (steps_after log);
}

-- there is a place for a list at each vertex of a block, where there are n places
abbrev pub HavePlaces : List BlockTree → ℕ → Type 0
HavePlaces trees n = (b v : ℕ) → is_member v (tree_at trees b).part.vertices ≡ true → v < n

-- the history belongs to what is kept, and a list may be kept at each vertex of a block
abbrev pub IsBoard : List BlockView → List (Option (List ℕ)) → undo_log.History → Type 0
IsBoard views lists log = IsHistory (map view_tree views) (kept_on views lists) log × HavePlaces (map view_tree views) (length lists)

-- trees and certificates stay
pub record IsCarried (old new : List BlockView) : Type 0 where
  pub trees : map view_tree new ≡ map view_tree old
  pub certificates : map view_certificate new ≡ map view_certificate old

-- the board goes on to this: it is what is kept now, what was kept before is the nearest earlier, and nothing is later
pub record GoesTo (before : BoardView) (kept : Kept) (after : BoardView) : Type 0 where
  pub present : kept_now after ≡ kept
  pub earlier : after.earlier ≡ kept_now before ∷ before.earlier
  pub later : after.later ≡ []
  pub carried : IsCarried before.views after.views

-- a step of the blocks leads from what is kept now to this, and back
pub record LeadsTo (views : List BlockView) (lists : List (Option (List ℕ))) (kept : Kept) (step : Step) : Type 0 where
  pub is_step : IsStepOf (map view_tree views) step
  pub forth : redone (map view_tree views) step (kept_on views lists) ≡ kept
  pub back : undone (map view_tree views) step kept ≡ kept_on views lists

-- block b is there and planar, and this is its embedding
pub record StandsAt (views : List BlockView) (b : ℕ) (e : Embedding) : Type 0 where
  pub within : b < length views
  pub entry : (view_at views b).entry ≡ Some e

-- a block in the plane can take the place of block b, whose embedding is e: graph, tree and locks are the same
pub record CanReplace (views : List BlockView) (b : ℕ) (e : Embedding) (plane : BlockState) : Type 0 where
  pub stands : StandsAt views b e
  pub graph : plane.graph ≡ (view_at views b).tree.part.graph
  pub tree : plane.tree ≡ (view_at views b).tree.nodes
  pub locks : plane.locks ≡ e.locks

-- moves of block b can be made: it is there and planar, and they are moves of its tree, no two of one node
pub record CanMake (views : List BlockView) (b : ℕ) (moves : List Move) : Type 0 where
  pub entry : Embedding
  pub stands : StandsAt views b entry
  pub are : AreOfNodes (view_at views b).tree.nodes moves

-- block b gets this plane rotation system with these locks, and no list is kept at its vertices
pub record IsChangedTo (before : BoardView) (b : ℕ) (e : Embedding) (after : BoardView) : Type 0 where
  pub plane : IsPlaneSystem (view_at before.views b).tree.part.graph e.rotation
  pub goes : GoesTo before (kept_changed before.views before.lists b e) after

-- moves of block b were made: one after the other, and through plane rotation systems, they lead from its embedding before to the one
-- after; the locks stay
pub record AreMade (before : BoardView) (b : ℕ) (moves : List Move) (after : BoardView) : Type 0 where
  pub old : Embedding
  pub stands : StandsAt before.views b old
  pub rotation : List (List ℕ)
  pub lead : Lead (view_at before.views b).tree.part.graph (view_at before.views b).tree.nodes (IsPlaneSystem (view_at before.views b).tree.part.graph) moves old.rotation rotation
  pub changed : IsChangedTo before b (record { rotation = rotation; locks = old.locks }) after

-- block b has the mirror image of its embedding; the locks stay
pub record IsMirroredAt (before : BoardView) (b : ℕ) (after : BoardView) : Type 0 where
  pub old : Embedding
  pub stands : StandsAt before.views b old
  pub changed : IsChangedTo before b (record { rotation = mirror_image old.rotation; locks = old.locks }) after

-- the state of a board on the setting that a scene is with blocks
abbrev pub state_on : Scene → List BlockView → BoardView → State
state_on scene views board = board_state (setting_on scene views) board

-- a scene and a board belong together: they are a setting, and a state on it
pub record BelongTogether (scene : Scene) (board : BoardView) : Type 0 where
  pub setting : IsSetting (setting_on scene board.views)
  pub state : IsState (setting_on scene board.views) (state_on scene board.views board)
