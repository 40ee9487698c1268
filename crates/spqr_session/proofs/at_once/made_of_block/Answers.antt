use Rattle.std.proofs.Common.{◌≡◌, List, map, sym, subst, All}
use Rattle.pair_split.specs.Tutte.{Node}
use Rattle.skel_embed.specs.declared.planes.Outcome.{Outcome}
use Rattle.undo_log.specs.declared.step.BlockMove.{BlockMove}
use Rattle.embed_moves.specs.Made.{Fits}
use Rattle.spqr_session.specs.AtOnce.{moves_of}
use Rattle.spqr_session.specs.Embedded.{view_tree, block_view, IsEmbedded}
use Rattle.spqr_session.specs.History.{IsMoveOf}
use Rattle.spqr_session.specs.Moved.{all_moved}
use Rattle.spqr_session.proofs.AtOnce.{own-fit, own-nodes, made-block}
use Rattle.spqr_session.proofs.BlockTrees.{view-at}
use Rattle.spqr_session.proofs.at_once.made_of_block.Goals as goal

pub moved_at_once-requires : goal.moved_at_once-requires
moved_at_once-requires c =
    let views = c.args.blocks.now in
    let b = c.args.b in
    let v = c.index-blocks-b.result in
    let p = c.in-Plane.plane in
    let at = view-at views b v c.requires.block c.index-blocks-b.is in
    let seen = subst (λ (o : Outcome). block_view v.tree.part o ≡ v) c.in-Plane.is c.outcome.ensures.view in
    let fit = own-fit (map view_tree views) b (moves_of c.args.moves.now) (subst (All (IsMoveOf (map view_tree views))) c.requires.all c.requires.right) in
    subst (λ (ms : List BlockMove). All (Fits p.tree) (moves_of ms)) (sym c.as_slice-in-Plane.ensures) (subst (λ (t : List Node). All (Fits t) (moves_of c.args.moves.now)) (sym (own-nodes views b v p at seen)) fit)

pub returns-in_ok-plane-in-Plane : goal.returns-in_ok-plane-in-Plane
returns-in_ok-plane-in-Plane c =
    let views = c.args.blocks.now in
    let b = c.args.b in
    let v = c.index-blocks-b.result in
    let p = c.in-Plane.plane in
    let q = c.in_ok-plane-in-Plane.plane in
    let at = view-at views b v c.requires.block c.index-blocks-b.is in
    let seen = subst (λ (o : Outcome). block_view v.tree.part o ≡ v) c.in-Plane.is c.outcome.ensures.view in
    let right = subst (IsEmbedded v.tree.part) c.in-Plane.is c.outcome.ensures.right in
    let made = subst (λ (ms : List BlockMove). q ≡ record { graph = p.graph; tree = p.tree; rotation = all_moved p.tree (moves_of ms) p.rotation; choices = q.choices; locks = p.locks }) c.as_slice-in-Plane.ensures (c.in_ok-plane-in-Plane.ensures {u = tt}) in
    made-block views b v p q c.args.moves.now c.requires.block at seen right c.requires.all made
