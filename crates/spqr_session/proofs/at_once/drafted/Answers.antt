use Rattle.std.proofs.Common.{◌≡◌, ◌∙◌, ◌+◌, List, [], drop, refl, sym, ap, subst, arith, All}
use Rattle.std.proofs.lemmas.List.{drop_all}
use Rattle.std.proofs.lemmas.List.Elements.{All-head, All-tail}
use Rattle.skeletons.specs.Moves.{Move}
use Rattle.skel_embed.specs.Block.{choices_by}
use Rattle.skel_embed.specs.Drafts.{choices_moved, CanBeMoved}
use Rattle.skel_embed.specs.Values.{as_move}
use Rattle.skel_embed.proofs.KeptKeys.{kept-are}
use Rattle.undo_log.specs.declared.step.BlockMove.{BlockMove}
use Rattle.embed_moves.specs.Made.{Fits}
use Rattle.spqr_session.specs.AtOnce.{moves_of}
use Rattle.spqr_session.specs.Moved.{moved, all_moved}
use Rattle.spqr_session.proofs.AtOnce.{next-move, can-move, draft-moved}
use Rattle.spqr_session.proofs.Moved.{move-keeps}
use Rattle.spqr_session.proofs.at_once.drafted.Goals as goal

pub loop-pair-init : goal.loop-pair-init
loop-pair-init c = (c.args.plane.now.rotation, c.belongs.ensures.plane, c.in_ok-draft.ensures {u = tt} ∙ kept-are c.args.plane.now c.belongs.ensures, c.requires, refl)

pub make-requires : goal.make-requires
make-requires c =
    let p = c.args.plane.now in
    let w = c.loop-pair.invariant in
    let next = next-move c.args.moves.now c.loop-pair.pair-index c.pair-item.result c.loop-pair-test.true c.pair-item.is in
    let one = All-head (Fits p.tree) (as_move c.pair-item.result.one) (moves_of (drop (c.loop-pair.pair-index + 1) c.args.moves.now)) (subst (All (Fits p.tree)) next w.3) in
    subst (CanBeMoved (as_move c.pair-item.result.one)) (sym w.2) (can-move p.graph p.tree c.belongs.ensures.block (as_move c.pair-item.result.one) w.0 w.1 one)

pub loop-pair-preserved : goal.loop-pair-preserved
loop-pair-preserved c =
    let p = c.args.plane.now in
    let w = c.loop-pair.invariant in
    let move = as_move c.pair-item.result.one in
    let rest = moves_of (drop (c.loop-pair.pair-index + 1) c.args.moves.now) in
    let next = next-move c.args.moves.now c.loop-pair.pair-index c.pair-item.result c.loop-pair-test.true c.pair-item.is in
    let fit = subst (All (Fits p.tree)) next w.3 in
    let one = All-head (Fits p.tree) move rest fit in (
      moved p.tree move w.0,
      move-keeps p.graph p.tree c.belongs.ensures.block move w.0 w.1 one,
      c.make.ensures ∙ ap (choices_moved move) w.2 ∙ draft-moved p.graph p.tree c.belongs.ensures.block move w.0 w.1 one,
      All-tail (Fits p.tree) move rest fit,
      sym (ap (λ (ms : List Move). all_moved p.tree ms w.0) next) ∙ w.4,
    )

pub returns : goal.returns
returns c =
    let p = c.args.plane.now in
    let w = c.loop-pair.invariant in
    let none : drop c.loop-pair.pair-index c.args.moves.now ≡ [] = drop_all c.loop-pair.pair-index c.args.moves.now (omega (arith, c.loop-pair-test.false)) in
    w.2 ∙ ap (choices_by p.tree) (sym (ap (λ (ms : List BlockMove). all_moved p.tree (moves_of ms) w.0) none) ∙ w.4)
