-- What the board's functions do to its blocks and its history.
use Rattle.std.proofs.Common.{◌≡◌, ℕ, zero, suc, ◌+◌, ◌<◌, ◌≤◌, Bool, not, nat_lt, List, [], ◌∷◌, length, map, take, drop, get_or, slice_index_or, slice_set, add-one, Option, None, Some, refl, sym, ap, ◌∙◌, subst, arith, All}
use Rattle.std.proofs.lemmas.List.{length-map, length-take-le, length-reverse}
use Rattle.std.proofs.lemmas.List.Elements.{All-head}
use Rattle.std.proofs.lemmas.Bool.{lt-ltb, le-ltb}
use Rattle.std.proofs.Math.Seq.{drop-cons}
use Rattle.multigraph.specs.Graph.{Multigraph}
use Rattle.multigraph.specs.Part.{GraphPart}
use Rattle.pair_split.specs.Tutte.{Node}
use Rattle.skeletons.specs.Items.{IsBlockTree}
use Rattle.rotations.specs.Runs.{mirror_image}
use Rattle.faces.specs.Euler.{IsPlaneSystem}
use Rattle.faces.proofs.MapMirror.{mirror-system, mirror-image-plane}
use Rattle.skeletons.specs.Moves.{Move, moves_between}
use Rattle.skel_embed.specs.Block.{BlockState, lock_at, IsBlockState}
use Rattle.skel_embed.specs.declared.planes.Outcome.{Outcome}
use Rattle.skel_embed.specs.declared.planes.Outcome.TheVariants.{Plane, Not}
use Rattle.undo_log.specs.History.{History as UndoHistory}
use Rattle.undo_log.specs.declared.step.BlockMove.{BlockMove}
use Rattle.undo_log.specs.declared.step.CutChange.{CutChange}
use Rattle.undo_log.specs.declared.step.Step.{Step}
use Rattle.undo_log.specs.declared.step.Step.TheVariants.{Moves, Mirror, Lock}
use Rattle.spqr_session.specs.Trees.{BlockTree, tree_at}
use Rattle.spqr_session.specs.State.{Embedding}
use Rattle.spqr_session.specs.Kept.{Kept}
use Rattle.spqr_session.specs.Embedded.{BlockView, view_tree, view_certificate, view_entry, view_at, block_view, IsEmbedded}
use Rattle.embed_moves.specs.Made.{Fits}
use Rattle.spqr_session.specs.Moved.{all_moved}
use Rattle.spqr_session.specs.History.{entry_moved, entry_locked, entry_mirrored, as_pair, as_pairs, pairs_moved, block_mirrored, node_locked, lists_set, lists_cleared, lists_after, entries_redone, walk, redone, undone, steps_before, steps_after, IsMoveOf}
use Rattle.spqr_session.specs.Commands.History.{is_none}
use Rattle.spqr_session.specs.Board.{BoardView, kept_on, kept_with_entry, kept_changed, board_view, Clears, GoesTo, IsBoard, IsCarried, IsChangedTo, LeadsTo, StandsAt, CanReplace}
use Rattle.spqr_session.proofs.Views.{trees-at, entries-at}
use Rattle.spqr_session.proofs.BlockTrees.{view-at}
use Rattle.spqr_session.proofs.Moved.{moves-keep, between-made}
use Rattle.spqr_session.proofs.Boards.{IsAdded, board-noted, board-goes}
use Rattle.spqr_session.proofs.Families.{trees-kept, certificates-kept, entries-set, of_block, pairs-fit, moves-forth, moves-back, lock-forth, lock-back, mirror-forth, mirror-back}

-- something is passed for each step
walked : {S : Type 0} (move : S → Kept → Kept) (f : Kept) (ss : List S) → nat_lt 0 (length ss) ≡ not (is_none (walk move f ss))
walked move f [] = refl
walked move f (s ∷ ss) = lt-ltb 0 (suc (length ss)) (omega arith)

dropped : {S : Type 0} (c : ℕ) (ss : List S) → nat_lt c (length ss) ≡ nat_lt 0 (length (drop c ss))
dropped zero ss = refl
dropped (suc c) [] = le-ltb (suc c) 0 (omega arith)
dropped (suc c) (s ∷ ss) = further ∙ dropped c ss
  where
    further : nat_lt (suc c) (suc (length ss)) ≡ nat_lt c (length ss)
    further = grind arith

pub can-undo : (trees : List BlockTree) (f : Kept) (log : UndoHistory) → log.cursor ≤ length log.steps → nat_lt 0 log.cursor ≡ not (is_none (walk (undone trees) f (steps_before log)))
can-undo trees f log l = ap (nat_lt 0) (sym (length-reverse (take log.cursor log.steps) ∙ length-take-le log.cursor log.steps l)) ∙ walked (undone trees) f (steps_before log)

pub can-redo : (trees : List BlockTree) (f : Kept) (log : UndoHistory) → nat_lt log.cursor (length log.steps) ≡ not (is_none (walk (redone trees) f (steps_after log)))
can-redo trees f log = dropped log.cursor log.steps ∙ walked (redone trees) f (steps_after log)

-- a block in the plane put in the place of another one is right
pub replaced-right : (part : GraphPart) (outcome : Outcome) (p : BlockState) → IsEmbedded part outcome → IsBlockState p → p.graph ≡ part.graph → p.tree ≡ (block_view part outcome).tree.nodes → IsEmbedded part (Plane p)
replaced-right part outcome p h s g t = record {
  graph = g;
  tree = subst (IsBlockTree part.graph) (sym t) h.tree;
  certificate = (p.rotation, subst (λ (x : Multigraph). IsPlaneSystem x p.rotation) g s.plane);
  entry = (subst (λ (x : Multigraph). IsPlaneSystem x p.rotation) g s.plane, s.locks);
}

-- so is one that was moved
pub carried-right : (part : GraphPart) (p new : BlockState) (moves : List Move) → IsEmbedded part (Plane p) → All (Fits p.tree) moves
    → new ≡ record { graph = p.graph; tree = p.tree; rotation = all_moved p.tree moves p.rotation; choices = new.choices; locks = p.locks } → IsEmbedded part (Plane new)
carried-right part p new moves h a e = record {
  graph = ap (λ (x : BlockState). x.graph) e ∙ h.graph;
  tree = subst (IsBlockTree part.graph) (sym nodes) h.tree;
  certificate = h.certificate;
  entry = (
    subst (IsPlaneSystem part.graph) (sym (ap (λ (x : BlockState). x.rotation) e)) (moves-keep part.graph p.tree h.tree moves p.rotation h.entry.0 a),
    ap (λ (x : BlockState). length x.locks) e ∙ h.entry.1 ∙ sym (ap (λ (t : List Node). length t) nodes),
  );
}
  where
    nodes : new.tree ≡ p.tree
    nodes = ap (λ (x : BlockState). x.tree) e

-- and one that was mirrored
pub mirrored-right : (part : GraphPart) (p new : BlockState) → IsEmbedded part (Plane p) → new.rotation ≡ mirror_image p.rotation
    → new ≡ record { graph = p.graph; tree = p.tree; rotation = new.rotation; choices = new.choices; locks = p.locks } → IsEmbedded part (Plane new)
mirrored-right part p new h m e = record {
  graph = ap (λ (x : BlockState). x.graph) e ∙ h.graph;
  tree = subst (IsBlockTree part.graph) (sym nodes) h.tree;
  certificate = h.certificate;
  entry = (
    subst (IsPlaneSystem part.graph) (sym m) (record { system = mirror-system part.graph p.rotation h.entry.0.system; plane = mirror-image-plane part.graph p.rotation h.tree.graph h.entry.0.system h.entry.0.plane }),
    ap (λ (x : BlockState). length x.locks) e ∙ h.entry.1 ∙ sym (ap (λ (t : List Node). length t) nodes),
  );
}
  where
    nodes : new.tree ≡ p.tree
    nodes = ap (λ (x : BlockState). x.tree) e

module _ (views : List BlockView) (b : ℕ) (e : Embedding) (at : StandsAt views b e) where
  within : b < length (map view_entry views)
  within = omega (arith, at.within, length-map views view_entry)

  there : b < length (map view_tree views)
  there = omega (arith, at.within, length-map views view_tree)

  stands : slice_index_or (map view_entry views) b None ≡ Some e
  stands = entries-at views b ∙ at.entry

  -- a lock leads to the embedding with it
  pub lock-leads : (lists : List (Option (List ℕ))) (k : ℕ) (on before : Bool) → k < length (view_at views b).tree.nodes → before ≡ lock_at e.locks k
      → LeadsTo views lists (kept_with_entry views lists b (record { rotation = e.rotation; locks = slice_set e.locks k on })) (Lock b k before on)
  lock-leads lists k on before l p = record {
    is_step = (there, subst (λ (t : BlockTree). k < length t.nodes) (sym (trees-at views b)) l);
    forth = λ i. record { entries = lock-forth (map view_tree views) (map view_entry views) b e new within stands k on refl i; lists = lists };
    back = λ i. record { entries = lock-back (map view_tree views) (map view_entry views) b e new within stands k on before refl p i; lists = lists };
  }
    where
      new : Embedding
      new = record { rotation = e.rotation; locks = slice_set e.locks k on }

  module _ (lists : List (Option (List ℕ))) (cuts : List CutChange) (clears : Clears (view_at views b).tree.part.vertices lists cuts) where
    -- moves that lead to another rotation system, and back
    pub made-leads : (q : List (List ℕ)) (locks : List Bool) (forth back : List BlockMove) (there_moves back_moves : List Move) → locks ≡ e.locks → as_pairs forth ≡ of_block b there_moves → as_pairs back ≡ of_block b back_moves
        → All (Fits (view_at views b).tree.nodes) there_moves → All (Fits (view_at views b).tree.nodes) back_moves
        → all_moved (view_at views b).tree.nodes there_moves e.rotation ≡ q → all_moved (view_at views b).tree.nodes back_moves q ≡ e.rotation
        → LeadsTo views lists (kept_changed views lists b (record { rotation = q; locks = locks })) (Moves forth back cuts)
    made-leads q locks forth back there_moves back_moves same f g fit_forth fit_back to from = record {
      is_step = (rights forth there_moves f fit_forth, rights back back_moves g fit_back);
      forth = λ i. record { entries = ahead i; lists = clears.forth i };
      back = λ i. record { entries = behind i; lists = clears.back i };
    }
      where
        new : Embedding
        new = record { rotation = q; locks = locks }

        rights : (pairs : List BlockMove) (moves : List Move) → as_pairs pairs ≡ of_block b moves → All (Fits (view_at views b).tree.nodes) moves → All (IsMoveOf (map view_tree views)) (as_pairs pairs)
        rights pairs moves h a = subst (All (IsMoveOf (map view_tree views))) (sym h) (pairs-fit (map view_tree views) b moves there (subst (λ (x : BlockTree). All (Fits x.nodes) moves) (sym (trees-at views b)) a))

        leads : (moves : List Move) (r t : List (List ℕ)) → all_moved (view_at views b).tree.nodes moves r ≡ t → all_moved (tree_at (map view_tree views) b).nodes moves r ≡ t
        leads moves r t a = ap (λ (x : BlockTree). all_moved x.nodes moves r) (trees-at views b) ∙ a

        ahead : pairs_moved (map view_tree views) (as_pairs forth) (map view_entry views) ≡ slice_set (map view_entry views) b (Some new)
        ahead = ap (λ (ps : List (ℕ × Move)). pairs_moved (map view_tree views) ps (map view_entry views)) f ∙ moves-forth (map view_tree views) (map view_entry views) b e new within stands there_moves (leads there_moves e.rotation q to) same

        behind : pairs_moved (map view_tree views) (as_pairs back) (slice_set (map view_entry views) b (Some new)) ≡ map view_entry views
        behind = ap (λ (ps : List (ℕ × Move)). pairs_moved (map view_tree views) ps (slice_set (map view_entry views) b (Some new))) g
            ∙ moves-back (map view_tree views) (map view_entry views) b e new within stands back_moves (leads back_moves q e.rotation from) same

    -- the moves between two plane rotation systems lead from the one to the other
    pub moves-lead : (q : List (List ℕ)) (locks : List Bool) (forth back : List BlockMove) → locks ≡ e.locks → IsBlockTree (view_at views b).tree.part.graph (view_at views b).tree.nodes
        → IsPlaneSystem (view_at views b).tree.part.graph e.rotation → IsPlaneSystem (view_at views b).tree.part.graph q
        → as_pairs forth ≡ of_block b (moves_between (view_at views b).tree.nodes e.rotation q) → as_pairs back ≡ of_block b (moves_between (view_at views b).tree.nodes q e.rotation)
        → LeadsTo views lists (kept_changed views lists b (record { rotation = q; locks = locks })) (Moves forth back cuts)
    moves-lead q locks forth back same tree p s f g =
        made-leads q locks forth back (moves_between (view_at views b).tree.nodes e.rotation q) (moves_between (view_at views b).tree.nodes q e.rotation) same f g ahead.0 behind.0 ahead.1 behind.1
      where
        nodes : List Node
        nodes = (view_at views b).tree.nodes

        ahead : All (Fits (view_at views b).tree.nodes) (moves_between (view_at views b).tree.nodes e.rotation q) × (all_moved (view_at views b).tree.nodes (moves_between (view_at views b).tree.nodes e.rotation q) e.rotation ≡ q)
        ahead = between-made (view_at views b).tree.part.graph (view_at views b).tree.nodes tree e.rotation q p s

        behind : All (Fits (view_at views b).tree.nodes) (moves_between (view_at views b).tree.nodes q e.rotation) × (all_moved (view_at views b).tree.nodes (moves_between (view_at views b).tree.nodes q e.rotation) q ≡ e.rotation)
        behind = between-made (view_at views b).tree.part.graph (view_at views b).tree.nodes tree q e.rotation s p

    -- the mirror image leads to itself, and back
    pub mirror-leads : mirror_image (mirror_image e.rotation) ≡ e.rotation → LeadsTo views lists (kept_changed views lists b (record { rotation = mirror_image e.rotation; locks = e.locks })) (Mirror b cuts)
    mirror-leads twice = record {
      is_step = there;
      forth = λ i. record { entries = mirror-forth (map view_tree views) (map view_entry views) b e new within stands refl i; lists = clears.forth i };
      back = λ i. record { entries = mirror-back (map view_tree views) (map view_entry views) b e new within stands refl twice i; lists = clears.back i };
    }
      where
        new : Embedding
        new = record { rotation = mirror_image e.rotation; locks = e.locks }

    -- so it is between the block that stands and one that can take its place
    pub plane-leads : (present q : BlockState) (forth back : List BlockMove) → block_view (view_at views b).tree.part (Plane present) ≡ view_at views b → IsEmbedded (view_at views b).tree.part (Plane present)
        → CanReplace views b e q → IsBlockState q → as_pairs forth ≡ of_block b (moves_between present.tree present.rotation q.rotation) → as_pairs back ≡ of_block b (moves_between q.tree q.rotation present.rotation)
        → LeadsTo views lists (kept_changed views lists b (record { rotation = q.rotation; locks = q.locks })) (Moves forth back cuts)
    plane-leads present q forth back seen right can state f g = moves-lead q.rotation q.locks forth back can.locks (subst (IsBlockTree (view_at views b).tree.part.graph) nodes right.tree)
        (subst (IsPlaneSystem (view_at views b).tree.part.graph) stood right.entry.0) (subst (λ (x : Multigraph). IsPlaneSystem x q.rotation) can.graph state.plane)
        (f ∙ ap (λ (t : List Node). of_block b (moves_between t present.rotation q.rotation)) nodes ∙ ap (λ (r : List (List ℕ)). of_block b (moves_between (view_at views b).tree.nodes r q.rotation)) stood)
        (g ∙ ap (λ (t : List Node). of_block b (moves_between t q.rotation present.rotation)) can.tree ∙ ap (λ (r : List (List ℕ)). of_block b (moves_between (view_at views b).tree.nodes q.rotation r)) stood)
      where
        nodes : present.tree ≡ (view_at views b).tree.nodes
        nodes = ap (λ (v : BlockView). v.tree.nodes) seen

        stood : present.rotation ≡ e.rotation
        stood =
            let both : Some (record { rotation = present.rotation; locks = present.locks }) ≡ Some e = ap view_entry seen ∙ at.entry in
            let one : record { rotation = present.rotation; locks = present.locks } ≡ e = cc in
            ap (λ (x : Embedding). x.rotation) one

-- the move at a place, and those after it
pub next-pair : (moves : List BlockMove) (i : ℕ) (m : BlockMove) → i < length moves → m ≡ get_or moves i m → as_pairs (drop i moves) ≡ as_pair m ∷ as_pairs (drop (i + 1) moves)
next-pair moves i m l e =
    let cut : drop i moves ≡ m ∷ drop (i + 1) moves = rw add-one (drop-cons moves i m l ∙ ap (λ (x : BlockMove). x ∷ drop (suc i) moves) (sym e)) in
    ap as_pairs cut

-- its block is there
pub pair-within : (first now : List BlockView) (moves : List BlockMove) (i : ℕ) (m : BlockMove) → i < length moves → m ≡ get_or moves i m → map view_tree now ≡ map view_tree first → All (IsMoveOf (map view_tree first)) (as_pairs (drop i moves)) → m.block < length now
pair-within first now moves i m l e t a =
    let h = All-head (IsMoveOf (map view_tree first)) (as_pair m) (as_pairs (drop (i + 1) moves)) (subst (All (IsMoveOf (map view_tree first))) (next-pair moves i m l e) a) in
    omega (arith, h.0, ap (λ (ts : List BlockTree). length ts) t, length-map now view_tree)

-- a block that is found at a place is changed: trees and certificates stay
pub set-carried : (views : List BlockView) (b : ℕ) (v w : BlockView) → b < length views → w ≡ get_or views b w → v.tree ≡ w.tree → v.certificate ≡ w.certificate → IsCarried views (slice_set views b v)
set-carried views b v w l at t c = record {
  trees = trees-kept views b v (t ∙ ap view_tree (view-at views b w l at));
  certificates = certificates-kept views b v (c ∙ ap (λ (x : BlockView). x.certificate) (view-at views b w l at));
}

-- and the entries are changed so
pub set-moved : (views : List BlockView) (trees : List BlockTree) (b : ℕ) (v w : BlockView) (moves : List Move) → map view_tree views ≡ trees → b < length views → w ≡ get_or views b w → v.entry ≡ entry_moved w.tree.nodes moves w.entry
    → map view_entry (slice_set views b v) ≡ slice_set (map view_entry views) b (entry_moved (tree_at trees b).nodes moves (slice_index_or (map view_entry views) b None))
set-moved views trees b v w moves t l at e = entries-set views b v ∙ ap (slice_set (map view_entry views) b) (e ∙ ap (λ (x : BlockView). entry_moved x.tree.nodes moves x.entry) (view-at views b w l at)
    ∙ ap (λ (x : BlockTree). entry_moved x.nodes moves (view_at views b).entry) (sym (ap (λ (ts : List BlockTree). tree_at ts b) (sym t) ∙ trees-at views b))
    ∙ ap (entry_moved (tree_at trees b).nodes moves) (sym (entries-at views b)))

pub set-locked : (views : List BlockView) (b : ℕ) (v w : BlockView) (k : ℕ) (on : Bool) → b < length views → w ≡ get_or views b w → v.entry ≡ entry_locked k on w.entry → map view_entry (slice_set views b v) ≡ node_locked b k on (map view_entry views)
set-locked views b v w k on l at e = entries-set views b v ∙ ap (slice_set (map view_entry views) b) (e ∙ ap (λ (x : BlockView). entry_locked k on x.entry) (view-at views b w l at) ∙ ap (entry_locked k on) (sym (entries-at views b)))

pub set-mirrored : (views : List BlockView) (b : ℕ) (v w : BlockView) → b < length views → w ≡ get_or views b w → v.entry ≡ entry_mirrored w.entry → map view_entry (slice_set views b v) ≡ block_mirrored b (map view_entry views)
set-mirrored views b v w l at e = entries-set views b v ∙ ap (slice_set (map view_entry views) b) (e ∙ ap (λ (x : BlockView). entry_mirrored x.entry) (view-at views b w l at) ∙ ap entry_mirrored (sym (entries-at views b)))

-- a block with this embedding put in the place of another, where the lists are set that a step sets
module _ (views : List BlockView) (lists new_lists : List (Option (List ℕ))) (b : ℕ) (e : Embedding) (v w : BlockView) (s : Step) (l : b < length views) (at : w ≡ get_or views b w)
    (is : v ≡ record { tree = w.tree; certificate = w.certificate; entry = Some e }) where
  pub put-carried : IsCarried views (slice_set views b v)
  put-carried = set-carried views b v w l at (ap view_tree is) (ap view_certificate is)

  pub put-kept : LeadsTo views lists (kept_changed views lists b e) s → new_lists ≡ lists_set (lists_after s) lists → kept_on (slice_set views b v) new_lists ≡ kept_changed views lists b e
  put-kept leads set = λ i. record { entries = entries i; lists = after i }
    where
      entries : map view_entry (slice_set views b v) ≡ slice_set (map view_entry views) b (Some e)
      entries = entries-set views b v ∙ ap (slice_set (map view_entry views) b) (ap view_entry is)

      after : new_lists ≡ lists_cleared (view_at views b).tree.part.vertices lists
      after = set ∙ ap (λ (k : Kept). k.lists) leads.forth

  -- so it is on the board
  module _ (old new : UndoHistory) (seen : BoardView) (h : IsBoard views lists old) (board : board_view views lists old ≡ seen) (added : IsAdded old new s) (leads : LeadsTo views lists (kept_changed views lists b e) s) (set : new_lists ≡ lists_set (lists_after s) lists) where
    pub put-right : IsBoard (slice_set views b v) new_lists new
    put-right = board-noted views (slice_set views b v) lists new_lists old new s put-carried h (kept_changed views lists b e) added leads (put-kept leads set)

    pub put-changed : IsPlaneSystem (view_at views b).tree.part.graph e.rotation → IsChangedTo seen b e (board_view (slice_set views b v) new_lists new)
    put-changed plane = subst (λ (x : BoardView). IsChangedTo x b e (board_view (slice_set views b v) new_lists new)) board
        (record { plane = plane; goes = board-goes views (slice_set views b v) lists new_lists old new s put-carried h (kept_changed views lists b e) added leads (put-kept leads set) })

-- the part of a block with what was found of it
pub view-part : (part : GraphPart) (outcome : Outcome) → (block_view part outcome).tree.part ≡ part
view-part part (Plane p) = refl
view-part part (Not b) = refl

-- what a board goes on to with a step that is noted: its history belongs to it
module _ (views other : List BlockView) (lists new_lists : List (Option (List ℕ))) (old new : UndoHistory) (s : Step) (kept : Kept) (seen : BoardView) (h : IsBoard views lists old) (is : board_view views lists old ≡ seen) (c : IsCarried views other)
    (added : IsAdded old new s) (leads : LeadsTo views lists kept s) (e : kept_on other new_lists ≡ kept) where
  pub on-right : IsBoard other new_lists new
  on-right = board-noted views other lists new_lists old new s c h kept added leads e

  pub on-goes : GoesTo seen kept (board_view other new_lists new)
  on-goes = subst (λ (v : BoardView). GoesTo v kept (board_view other new_lists new)) is (board-goes views other lists new_lists old new s c h kept added leads e)

-- what is kept after a step was carried out
pub step-kept : (views other : List BlockView) (lists new_lists : List (Option (List ℕ))) (s : Step) (kept : Kept) → LeadsTo views lists kept s → map view_entry other ≡ entries_redone (map view_tree views) s (map view_entry views) → new_lists ≡ lists_set (lists_after s) lists
    → kept_on other new_lists ≡ kept
step-kept views other lists new_lists s kept leads entries set = (λ i. record { entries = entries i; lists = set i }) ∙ leads.forth
