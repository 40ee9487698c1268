-- What is kept of the family on the board when one block is changed, and changes of it taken back.
use Rattle.std.proofs.Common.{◌≡◌, ℕ, ◌<◌, Bool, false, List, [], ◌∷◌, length, map, slice_index_or, slice_set, Option, None, Some, refl, sym, ap, ◌∙◌, arith, All}
use Rattle.std.proofs.lemmas.List.{map-set, length-set, set-set, set-get_or, get_or-set_same}
use Rattle.std.proofs.lemmas.List.Elements.{All-nil, All-cons, All-head, All-tail}
use Rattle.std.proofs.Math.Seq.{map-set_same}
use Rattle.rotations.specs.Runs.{mirror_image}
use Rattle.skeletons.specs.Moves.{Move}
use Rattle.skel_embed.specs.Block.{lock_at}
use Rattle.embed_moves.specs.Made.{Fits}
use Rattle.spqr_session.specs.Trees.{BlockTree, tree_at}
use Rattle.spqr_session.specs.State.{Embedding}
use Rattle.spqr_session.specs.Embedded.{BlockView, view_tree, view_certificate, view_entry, no_view, view_at}
use Rattle.spqr_session.specs.Moved.{all_moved}
use Rattle.spqr_session.specs.History.{entry_moved, entry_locked, entry_mirrored, pairs_moved, block_mirrored, node_locked, IsMoveOf}

module _ (views : List BlockView) (b : ℕ) (v : BlockView) where
  -- trees and certificates stay where those of the block do
  pub trees-kept : v.tree ≡ (view_at views b).tree → map view_tree (slice_set views b v) ≡ map view_tree views
  trees-kept e = map-set_same view_tree views b v no_view e

  pub certificates-kept : v.certificate ≡ (view_at views b).certificate → map view_certificate (slice_set views b v) ≡ map view_certificate views
  certificates-kept e = map-set_same view_certificate views b v no_view e

  -- the entries have that of the block
  pub entries-set : map view_entry (slice_set views b v) ≡ slice_set (map view_entry views) b v.entry
  entries-set = map-set view_entry views b v

-- the entry that was set
entry-there : (es : List (Option Embedding)) (b : ℕ) (x : Option Embedding) → b < length es → slice_index_or (slice_set es b x) b None ≡ x
entry-there es b x l = get_or-set_same es b x None l

-- a change of an entry is taken back by another one
set-back : (es : List (Option Embedding)) (b : ℕ) (x y : Option Embedding) → y ≡ slice_index_or es b None → slice_set (slice_set es b x) b y ≡ es
set-back es b x y e = set-set es b x y ∙ ap (slice_set es b) e ∙ set-get_or es b None

-- no move changes nothing
entry-moved_none : (trees : List BlockTree) (b : ℕ) (o : Option Embedding) → entry_moved (tree_at trees b).nodes [] o ≡ o
entry-moved_none trees b None = refl
entry-moved_none trees b (Some e) = refl

-- a move, and those after it
entry-moved_more : (trees : List BlockTree) (b : ℕ) (move : Move) (moves : List Move) (o : Option Embedding)
    → entry_moved (tree_at trees b).nodes moves (entry_moved (tree_at trees b).nodes (move ∷ []) o) ≡ entry_moved (tree_at trees b).nodes (move ∷ moves) o
entry-moved_more trees b move moves None = refl
entry-moved_more trees b move moves (Some e) = refl

-- moves of one block
abbrev pub of_block : ℕ → List Move → List (ℕ × Move)
of_block b moves = map (λ move. (b, move)) moves

pub pairs-of_block : (trees : List BlockTree) (b : ℕ) (moves : List Move) (es : List (Option Embedding)) → b < length es
    → pairs_moved trees (of_block b moves) es ≡ slice_set es b (entry_moved (tree_at trees b).nodes moves (slice_index_or es b None))
pairs-of_block trees b [] es l = sym (ap (slice_set es b) (entry-moved_none trees b (slice_index_or es b None)) ∙ set-get_or es b None)
pairs-of_block trees b (move ∷ moves) es l =
    let one = entry_moved (tree_at trees b).nodes (move ∷ []) (slice_index_or es b None) in
    pairs-of_block trees b moves (slice_set es b one) (omega (arith, l, length-set es b one))
    ∙ ap (λ (o : Option Embedding). slice_set (slice_set es b one) b (entry_moved (tree_at trees b).nodes moves o)) (entry-there es b one l)
    ∙ set-set es b one (entry_moved (tree_at trees b).nodes moves one)
    ∙ ap (slice_set es b) (entry-moved_more trees b move moves (slice_index_or es b None))

-- they are moves of the block's tree
pub pairs-fit : (trees : List BlockTree) (b : ℕ) (moves : List Move) → b < length trees → All (Fits (tree_at trees b).nodes) moves → All (IsMoveOf trees) (of_block b moves)
pairs-fit trees b [] l a = All-nil (IsMoveOf trees)
pairs-fit trees b (move ∷ moves) l a = All-cons (IsMoveOf trees) (b, move) (of_block b moves) (l, All-head (Fits (tree_at trees b).nodes) move moves a)
    (pairs-fit trees b moves l (All-tail (Fits (tree_at trees b).nodes) move moves a))

module _ (trees : List BlockTree) (es : List (Option Embedding)) (b : ℕ) (e new : Embedding) (l : b < length es) (at : slice_index_or es b None ≡ Some e) where
  -- moves that lead to the new rotation system, and back
  pub moves-forth : (forth : List Move) → all_moved (tree_at trees b).nodes forth e.rotation ≡ new.rotation → new.locks ≡ e.locks → pairs_moved trees (of_block b forth) es ≡ slice_set es b (Some new)
  moves-forth forth p q = pairs-of_block trees b forth es l ∙ ap (slice_set es b) (ap (entry_moved (tree_at trees b).nodes forth) at ∙ λ i. Some (record { rotation = p i; locks = sym q i }))

  pub moves-back : (back : List Move) → all_moved (tree_at trees b).nodes back new.rotation ≡ e.rotation → new.locks ≡ e.locks → pairs_moved trees (of_block b back) (slice_set es b (Some new)) ≡ es
  moves-back back p q = pairs-of_block trees b back (slice_set es b (Some new)) (omega (arith, l, length-set es b (Some new)))
      ∙ set-back es b (Some new) (entry_moved (tree_at trees b).nodes back (slice_index_or (slice_set es b (Some new)) b None))
      (ap (entry_moved (tree_at trees b).nodes back) (entry-there es b (Some new) l) ∙ (λ i. Some (record { rotation = p i; locks = q i })) ∙ sym at)

  -- a lock set, and taken back
  pub lock-forth : (k : ℕ) (on : Bool) → new ≡ record { rotation = e.rotation; locks = slice_set e.locks k on } → node_locked b k on es ≡ slice_set es b (Some new)
  lock-forth k on p = ap (slice_set es b) (ap (entry_locked k on) at ∙ ap (λ (x : Embedding). Some x) (sym p))

  pub lock-back : (k : ℕ) (on before : Bool) → new ≡ record { rotation = e.rotation; locks = slice_set e.locks k on } → before ≡ lock_at e.locks k → node_locked b k before (slice_set es b (Some new)) ≡ es
  lock-back k on before p q = set-back es b (Some new) (entry_locked k before (slice_index_or (slice_set es b (Some new)) b None))
      (ap (entry_locked k before) (entry-there es b (Some new) l) ∙ ap (λ (x : Embedding). entry_locked k before (Some x)) p
      ∙ ap (λ (ls : List Bool). Some (record { rotation = e.rotation; locks = ls })) (set-set e.locks k on before ∙ ap (slice_set e.locks k) q ∙ set-get_or e.locks k false) ∙ sym at)

  -- the mirror image, and back
  pub mirror-forth : new ≡ record { rotation = mirror_image e.rotation; locks = e.locks } → block_mirrored b es ≡ slice_set es b (Some new)
  mirror-forth p = ap (slice_set es b) (ap entry_mirrored at ∙ ap (λ (x : Embedding). Some x) (sym p))

  pub mirror-back : new ≡ record { rotation = mirror_image e.rotation; locks = e.locks } → mirror_image (mirror_image e.rotation) ≡ e.rotation → block_mirrored b (slice_set es b (Some new)) ≡ es
  mirror-back p q = set-back es b (Some new) (entry_mirrored (slice_index_or (slice_set es b (Some new)) b None))
      (ap entry_mirrored (entry-there es b (Some new) l) ∙ ap (λ (x : Embedding). entry_mirrored (Some x)) p ∙ ap (λ (r : List (List ℕ)). Some (record { rotation = r; locks = e.locks })) q ∙ sym at)
