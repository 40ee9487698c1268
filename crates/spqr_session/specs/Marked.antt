-- Marks at vertices: lists are kept at marked vertices alone.
use Rattle.std.specs.Prelude.{◌≡◌, ℕ, ◌<◌, Bool, true, false, List, [], length, map, filter, slice_index_or, Option, None, Some}
use Rattle.multigraph.specs.Marks.{is_marked}
use Rattle.undo_log.specs.History as undo_log
use Rattle.spqr_session.specs.Trees.{BlockTree, tree_at}
use Rattle.spqr_session.specs.Embedded.{BlockView, view_tree}
use Rattle.spqr_session.specs.Board.{IsBoard}
use Rattle.spqr_session.specs.declared.marks.MarkedVertices.{MarkedVertices}

-- whether this may be set at a vertex: a list only if it is marked
abbrev pub may_set_at : List Bool → ℕ → Option (List ℕ) → Bool
may_set_at marks v None = true
may_set_at marks v (Some list) = is_marked marks v

abbrev pub may_set : List Bool → ℕ × Option (List ℕ) → Bool
may_set marks p = may_set_at marks p.0 p.1

-- no list is kept at a vertex without a mark
abbrev pub AreKeptAt : List Bool → List (Option (List ℕ)) → Type 0
AreKeptAt marks lists = (v : ℕ) → is_marked marks v ≡ false → slice_index_or lists v None ≡ None

-- the marked vertices of a block, in increasing order
abbrev pub marked_in : List Bool → BlockTree → List ℕ
marked_in marks tree = filter (is_marked marks) tree.part.vertices

-- lists are kept at marked vertices alone, and those of each block are known
pub record IsMarked (trees : List BlockTree) (lists : List (Option (List ℕ))) (marked : MarkedVertices) : Type 0 where
  pub kept : AreKeptAt marked.marks.items lists
  pub each : (b : ℕ) → b < length trees → slice_index_or marked.places.items b [] ≡ marked_in marked.marks.items (tree_at trees b)

-- so it is on a board
pub record IsMarkedBoard (views : List BlockView) (lists : List (Option (List ℕ))) (log : undo_log.History) (marked : MarkedVertices) : Type 0 where
  pub board : IsBoard views lists log
  pub marks : IsMarked (map view_tree views) lists marked
