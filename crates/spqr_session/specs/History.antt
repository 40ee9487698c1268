-- What changes make of what is kept of a family, families along a list of changes, and the steps of the history as such changes.
use Rattle.std.specs.Prelude.{◌≡◌, ℕ, ◌<◌, ◌≤◌, Bool, List, [], ◌∷◌, length, map, take, drop, reverse, slice_index_or, slice_set, Option, None, Some, All, ⊤}
use Rattle.rotations.specs.Runs.{mirror_image}
use Rattle.pair_split.specs.Tutte.{Node}
use Rattle.skeletons.specs.Moves.{Move}
use Rattle.skel_embed.specs.Values.{as_move}
use Rattle.undo_log.specs.History.{History as UndoHistory}
use Rattle.undo_log.specs.declared.step.BlockMove.{BlockMove}
use Rattle.undo_log.specs.declared.step.CutChange.{CutChange}
use Rattle.undo_log.specs.declared.step.Step.{Step}
use Rattle.undo_log.specs.declared.step.Step.TheVariants.{Moves, Mirror, Lock}
use Rattle.spqr_session.specs.Trees.{BlockTree, tree_at}
use Rattle.spqr_session.specs.State.{Embedding}
use Rattle.spqr_session.specs.Kept.{Kept}
use Rattle.embed_moves.specs.Made.{Fits}
use Rattle.spqr_session.specs.Moved.{all_moved}

-- a rotation system moved; the locks stay
abbrev pub entry_moved : List Node → List Move → Option Embedding → Option Embedding
entry_moved nodes moves None = None
entry_moved nodes moves (Some e) = Some (record { rotation = all_moved nodes moves e.rotation; locks = e.locks })

-- a node locked, or its lock taken away; the rotation system stays
abbrev pub entry_locked : ℕ → Bool → Option Embedding → Option Embedding
entry_locked k on None = None
entry_locked k on (Some e) = Some (record { rotation = e.rotation; locks = slice_set e.locks k on })

-- the mirror image of a rotation system; the locks stay
abbrev pub entry_mirrored : Option Embedding → Option Embedding
entry_mirrored None = None
entry_mirrored (Some e) = Some (record { rotation = mirror_image e.rotation; locks = e.locks })

-- moves of blocks as pairs of a block and a move
abbrev pub as_pair : BlockMove → ℕ × Move
as_pair m = (m.block, as_move m.one)

abbrev pub as_pairs : List BlockMove → List (ℕ × Move)
as_pairs moves = map as_pair moves

-- what such moves make of the entries of the blocks, one after the other
abbrev pub pairs_moved : List BlockTree → List (ℕ × Move) → List (Option Embedding) → List (Option Embedding)
pairs_moved trees [] entries = entries
pairs_moved trees (p ∷ ps) entries = pairs_moved trees ps (slice_set entries p.0 (entry_moved (tree_at trees p.0).nodes (p.1 ∷ []) (slice_index_or entries p.0 None)))

-- what a lock of node k of block b makes of them
abbrev pub node_locked : ℕ → ℕ → Bool → List (Option Embedding) → List (Option Embedding)
node_locked b k on entries = slice_set entries b (entry_locked k on (slice_index_or entries b None))

-- what the mirror image of block b makes of them
abbrev pub block_mirrored : ℕ → List (Option Embedding) → List (Option Embedding)
block_mirrored b entries = slice_set entries b (entry_mirrored (slice_index_or entries b None))

-- the lists after others were set at vertices, one after the other
abbrev pub lists_set : List (ℕ × Option (List ℕ)) → List (Option (List ℕ)) → List (Option (List ℕ))
lists_set [] lists = lists
lists_set (p ∷ ps) lists = lists_set ps (slice_set lists p.0 p.1)

-- the lists after those at these vertices were removed
abbrev pub lists_cleared : List ℕ → List (Option (List ℕ)) → List (Option (List ℕ))
lists_cleared [] lists = lists
lists_cleared (v ∷ vs) lists = lists_cleared vs (slice_set lists v None)

-- what is passed on the way from f along the changes, the nearest first
abbrev pub walk : {S F : Type 0} → (S → F → F) → F → List S → List F
walk move f [] = []
walk move f (s ∷ ss) = move s f ∷ walk move (move s f) ss

-- along the way each change is taken back
abbrev pub Returns : {S F : Type 0} → (S → F → F) → (S → F → F) → F → List S → Type 0
Returns move back f [] = ⊤
Returns move back f (s ∷ ss) = (back s (move s f) ≡ f) × Returns move back (move s f) ss

-- so it is both ways from f: along the changes before it, the last first, and along those after it
pub record IsBetween {S F : Type 0} (forth back : S → F → F) (before : List S) (f : F) (after : List S) : Type 0 where
  pub before_returns : Returns back forth f before
  pub after_returns : Returns forth back f after

-- a cut vertex with the list that a change leaves at it, and with the one that was there before
abbrev pub list_after : CutChange → ℕ × Option (List ℕ)
list_after change = (change.vertex, change.after)

abbrev pub list_before : CutChange → ℕ × Option (List ℕ)
list_before change = (change.vertex, change.before)

-- the lists that a step sets at vertices, and those that it sets when it is taken back
abbrev pub lists_after : Step → List (ℕ × Option (List ℕ))
lists_after (Moves forth back cuts) = map list_after cuts
lists_after (Mirror b cuts) = map list_after cuts
lists_after (Lock b k before after) = []

abbrev pub lists_before : Step → List (ℕ × Option (List ℕ))
lists_before (Moves forth back cuts) = map list_before cuts
lists_before (Mirror b cuts) = map list_before cuts
lists_before (Lock b k before after) = []

-- what a step of the history makes of the entries, and what the entries were before it
abbrev pub entries_redone : List BlockTree → Step → List (Option Embedding) → List (Option Embedding)
entries_redone trees (Moves forth back cuts) entries = pairs_moved trees (as_pairs forth) entries
entries_redone trees (Mirror b cuts) entries = block_mirrored b entries
entries_redone trees (Lock b k before after) entries = node_locked b k after entries

abbrev pub entries_undone : List BlockTree → Step → List (Option Embedding) → List (Option Embedding)
entries_undone trees (Moves forth back cuts) entries = pairs_moved trees (as_pairs back) entries
entries_undone trees (Mirror b cuts) entries = block_mirrored b entries
entries_undone trees (Lock b k before after) entries = node_locked b k before entries

-- and what it makes of all that is kept
abbrev pub redone : List BlockTree → Step → Kept → Kept
redone trees step kept = record { entries = entries_redone trees step kept.entries; lists = lists_set (lists_after step) kept.lists }

abbrev pub undone : List BlockTree → Step → Kept → Kept
undone trees step kept = record { entries = entries_undone trees step kept.entries; lists = lists_set (lists_before step) kept.lists }

-- the steps before the cursor, the last first, and those after it
abbrev pub steps_before : UndoHistory → List Step
steps_before log = reverse (take log.cursor log.steps)

abbrev pub steps_after : UndoHistory → List Step
steps_after log = drop log.cursor log.steps

-- the block is there, and it is a move of its tree
abbrev pub IsMoveOf : List BlockTree → ℕ × Move → Type 0
IsMoveOf trees p = (p.0 < length trees) × Fits (tree_at trees p.0).nodes p.1

-- a step is one of blocks that are there: moves of their trees, there and back, a mirror image, or a lock of a node
abbrev pub IsStepOf : List BlockTree → Step → Type 0
IsStepOf trees (Moves forth back cuts) = All (IsMoveOf trees) (as_pairs forth) × All (IsMoveOf trees) (as_pairs back)
IsStepOf trees (Mirror b cuts) = b < length trees
IsStepOf trees (Lock b k before after) = (b < length trees) × (k < length (tree_at trees b).nodes)

-- a history belongs to what is kept of a family: its steps are steps of the blocks, and each is taken back along the way
pub record IsHistory (trees : List BlockTree) (kept : Kept) (log : UndoHistory) : Type 0 where
  pub cursor : log.cursor ≤ length log.steps
  pub steps : All (IsStepOf trees) log.steps
  pub between : IsBetween (redone trees) (undone trees) (steps_before log) kept (steps_after log)
