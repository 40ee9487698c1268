-- Moves made on the choices of a block, and the block that stands in its place then.
use Rattle.std.proofs.Common.{◌≡◌, ℕ, ◌+◌, ◌<◌, inl, inr, Bool, cond, List, [], ◌∷◌, length, map, drop, get_or, slice_index_or, slice_set, add-one, suc, Some, refl, sym, ap, ◌∙◌, subst, All, IsPermutation}
use Rattle.std.proofs.lemmas.Bool.{cases_eq, eq-eqb, ne_eqb}
use Rattle.std.proofs.lemmas.List.{length-map, length-set, get_or-set_same, get_or-set_other, ext_get_or}
use Rattle.std.proofs.lemmas.List.Elements.{All-nil, All-cons, All-head, All-tail}
use Rattle.std.proofs.lemmas.List.Sorted.{IsPermutation-sym, IsPermutation-trans}
use Rattle.std.proofs.Math.Seq.{drop-cons}
use Rattle.multigraph.specs.Graph.{Multigraph}
use Rattle.faces.specs.Euler.{IsPlaneSystem}
use Rattle.pair_split.specs.Tutte.{Node}
use Rattle.skeletons.specs.Items.{IsBlockTree, node_keys}
use Rattle.skeletons.specs.Choices.{choice}
use Rattle.skeletons.specs.Moves.{Move, flip, permute, moved_node}
use Rattle.skeletons.proofs.Leading.{bond-choice}
use Rattle.skeleton_runs.proofs.Contiguous.{plane-contiguous}
use Rattle.skel_embed.specs.Block.{BlockState, choices_by}
use Rattle.skel_embed.specs.Drafts.{choices_moved, CanBeMoved}
use Rattle.skel_embed.specs.Values.{as_move}
use Rattle.skel_embed.specs.declared.planes.Outcome.TheVariants.{Plane}
use Rattle.skel_embed.proofs.KeptKeys.{choices-by_at, choices-by_many}
use Rattle.undo_log.specs.declared.step.BlockMove.{BlockMove}
use Rattle.embed_moves.specs.Made.{Fits}
use Rattle.spqr_session.specs.Trees.{BlockTree, tree_at}
use Rattle.spqr_session.specs.State.{Embedding}
use Rattle.spqr_session.specs.Embedded.{BlockView, view_tree, view_entry, view_at, block_view, IsEmbedded}
use Rattle.spqr_session.specs.History.{as_pairs, pairs_moved, IsMoveOf}
use Rattle.spqr_session.specs.AtOnce.{moves_of, AreOfBlock, IsMadeBlock}
use Rattle.spqr_session.specs.Moved.{moved, all_moved}
use Rattle.spqr_session.proofs.Families.{of_block, moves-forth}
use Rattle.spqr_session.proofs.Views.{trees-at, entries-at}
use Rattle.spqr_session.proofs.WaysBack.{choice_moved, choice-moved, fits-node}

module _ (g : Multigraph) (nodes : List Node) (b : IsBlockTree g nodes) where
  -- the choices with another one of the moved node
  put-choice : (move : Move) (r : List (List ℕ)) (y : List ℕ) → IsPlaneSystem g r → Fits nodes move → y ≡ choice_moved move (slice_index_or (choices_by nodes r) (moved_node move) [])
      → slice_set (choices_by nodes r) (moved_node move) y ≡ choices_by nodes (moved nodes move r)
  put-choice move r y p is e = ext_get_or [] (slice_set (choices_by nodes r) (moved_node move) y) (choices_by nodes (moved nodes move r)) (length-set (choices_by nodes r) (moved_node move) y ∙ choices-by_many nodes r ∙ sym (choices-by_many nodes (moved nodes move r))) (λ j l.
      at j (subst (λ n. j < n) (length-set (choices_by nodes r) (moved_node move) y ∙ choices-by_many nodes r) l))
    where
      there : moved_node move < length nodes
      there = fits-node g nodes b move is

      own : y ≡ choice nodes (moved nodes move r) (moved_node move)
      own = e ∙ ap (choice_moved move) (choices-by_at nodes r (moved_node move) there)
          ∙ sym (choice-moved g nodes b move r (moved_node move) p is there ∙ ap (λ (t : Bool). cond t (choice_moved move (choice nodes r (moved_node move))) (choice nodes r (moved_node move))) (eq-eqb (moved_node move) (moved_node move) refl))

      at : (j : ℕ) → j < length nodes → slice_index_or (slice_set (choices_by nodes r) (moved_node move) y) j [] ≡ slice_index_or (choices_by nodes (moved nodes move r)) j []
      at j l = elim (cases_eq j (moved_node move)) [
        | inl q ↦ subst (λ i. slice_index_or (slice_set (choices_by nodes r) (moved_node move) y) i [] ≡ slice_index_or (choices_by nodes (moved nodes move r)) i []) (sym q)
            (get_or-set_same (choices_by nodes r) (moved_node move) y [] (subst (λ n. moved_node move < n) (sym (choices-by_many nodes r)) there) ∙ own ∙ sym (choices-by_at nodes (moved nodes move r) (moved_node move) there))
        | inr n ↦ get_or-set_other (choices_by nodes r) (moved_node move) j y [] n ∙ choices-by_at nodes r j l
            ∙ sym (choice-moved g nodes b move r j p is l ∙ ap (λ (t : Bool). cond t (choice_moved move (choice nodes r j)) (choice nodes r j)) (ne_eqb (moved_node move) j (λ q. n (sym q))))
            ∙ sym (choices-by_at nodes (moved nodes move r) j l)
      ]

  -- a move of the choices makes those of the moved rotation system
  pub draft-moved : (move : Move) (r : List (List ℕ)) → IsPlaneSystem g r → Fits nodes move → choices_moved move (choices_by nodes r) ≡ choices_by nodes (moved nodes move r)
  draft-moved (flip k) r p is = put-choice (flip k) r _ p is refl
  draft-moved (permute k keys) r p is = put-choice (permute k keys) r _ p is refl

  -- and it can be made
  pub can-move : (move : Move) (r : List (List ℕ)) → IsPlaneSystem g r → Fits nodes move → CanBeMoved move (choices_by nodes r)
  can-move (flip k) r p is = subst (λ n. k < n) (sym (choices-by_many nodes r)) is.0
  can-move (permute k keys) r p is = (
    subst (λ n. k < n) (sym (choices-by_many nodes r)) is.0.0,
    subst (λ (z : List ℕ). IsPermutation z keys) (sym (choices-by_at nodes r k is.0.0))
        (IsPermutation-trans (choice nodes r k) (node_keys nodes k) keys (IsPermutation-sym (node_keys nodes k) (choice nodes r k) (bond-choice g nodes b r k p.system (plane-contiguous g nodes r b p) is.0).0) is.1),
  )

-- the move at a place, and those after it
pub next-move : (moves : List BlockMove) (i : ℕ) (m : BlockMove) → i < length moves → m ≡ get_or moves i m → moves_of (drop i moves) ≡ as_move m.one ∷ moves_of (drop (i + 1) moves)
next-move moves i m l e =
    let cut : drop i moves ≡ m ∷ drop (i + 1) moves = rw add-one (drop-cons moves i m l ∙ ap (λ (x : BlockMove). x ∷ drop (suc i) moves) (sym e)) in
    ap moves_of cut

-- moves of one block are moves of its tree
pub own-fit : (trees : List BlockTree) (b : ℕ) (moves : List Move) → All (IsMoveOf trees) (of_block b moves) → All (Fits (tree_at trees b).nodes) moves
own-fit trees b [] a = All-nil (Fits (tree_at trees b).nodes)
own-fit trees b (move ∷ moves) a = All-cons (Fits (tree_at trees b).nodes) move moves (All-head (IsMoveOf trees) (b, move) (of_block b moves) a).1 (own-fit trees b moves (All-tail (IsMoveOf trees) (b, move) (of_block b moves) a))

-- the nodes of a block in the plane are those of its place
pub own-nodes : (views : List BlockView) (b : ℕ) (v : BlockView) (p : BlockState) → v ≡ view_at views b → block_view v.tree.part (Plane p) ≡ v → p.tree ≡ (tree_at (map view_tree views) b).nodes
own-nodes views b v p at seen = ap (λ (x : BlockView). x.tree.nodes) seen ∙ ap (λ (x : BlockView). x.tree.nodes) at ∙ ap (λ (x : BlockTree). x.nodes) (sym (trees-at views b))

-- the block that the moves of one block lead to can take its place
module _ (views : List BlockView) (b : ℕ) (v : BlockView) (p q : BlockState) (moves : List BlockMove) (l : b < length views) (at : v ≡ view_at views b) (seen : block_view v.tree.part (Plane p) ≡ v) (right : IsEmbedded v.tree.part (Plane p)) (own : AreOfBlock b moves)
    (made : q ≡ record { graph = p.graph; tree = p.tree; rotation = all_moved p.tree (moves_of moves) p.rotation; choices = q.choices; locks = p.locks }) where
  abbrev entry : Embedding
  entry = record { rotation = p.rotation; locks = p.locks }

  abbrev new : Embedding
  new = record { rotation = q.rotation; locks = q.locks }

  there : (view_at views b).entry ≡ Some entry
  there = ap view_entry (sym at) ∙ sym (ap view_entry seen)

  pub made-block : IsMadeBlock views (as_pairs moves) (record { block = b; plane = q })
  made-block = record {
    entry = entry;
    replaces = record {
      stands = record { within = l; entry = there };
      graph = ap (λ (x : BlockState). x.graph) made ∙ right.graph ∙ ap (λ (x : BlockView). x.tree.part.graph) at;
      tree = ap (λ (x : BlockState). x.tree) made ∙ ap (λ (x : BlockView). x.tree.nodes) seen ∙ ap (λ (x : BlockView). x.tree.nodes) at;
      locks = ap (λ (x : BlockState). x.locks) made;
    };
    made = ap (λ (ps : List (ℕ × Move)). pairs_moved (map view_tree views) ps (map view_entry views)) own
        ∙ moves-forth (map view_tree views) (map view_entry views) b entry new (subst (λ n. b < n) (sym (length-map views view_entry)) l) (entries-at views b ∙ there) (moves_of moves)
        (ap (λ (t : List Node). all_moved t (moves_of moves) p.rotation) (sym (own-nodes views b v p at seen)) ∙ sym (ap (λ (x : BlockState). x.rotation) made)) (ap (λ (x : BlockState). x.locks) made);
  }

-- one move more of a block
pub one-more : (moves : List BlockMove) (i : ℕ) (m : BlockMove) (b : ℕ) → i < length moves → m ≡ get_or moves i m → m.block ≡ b → AreOfBlock b (drop (i + 1) moves) → AreOfBlock b (drop i moves)
one-more moves i m b l e q h =
    let cut : drop i moves ≡ m ∷ drop (i + 1) moves = rw add-one (drop-cons moves i m l ∙ ap (λ (x : BlockMove). x ∷ drop (suc i) moves) (sym e)) in
    subst (AreOfBlock b) (sym cut) (ap (λ (n : ℕ). (n, as_move m.one) ∷ as_pairs (drop (i + 1) moves)) q ∙ ap (λ (ps : List (ℕ × Move)). (b, as_move m.one) ∷ ps) h)
