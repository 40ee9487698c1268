use Rattle.std.proofs.Common.{◌≡◌, List, All, sym, subst}
use Rattle.pair_split.specs.Tutte.{Node}
use Rattle.skel_embed.specs.Block.{BlockState}
use Rattle.skel_embed.specs.Values.{as_moves}
use Rattle.embed_moves.specs.Made.{Fits}
use Rattle.spqr_session.specs.Moved.{all_moved}
use Rattle.spqr_session.specs.PlannedMoves.{IsAfterMoves}
use Rattle.spqr_session.proofs.Planes.{seen-plane}
use Rattle.spqr_session.proofs.Steps.{ok-map}
use Rattle.spqr_session.proofs.MovesPlanned.{after-seen}
use Rattle.spqr_session.proofs.commands.convert.after_moves.Goals as goal

pub moved_copy-requires : goal.moved_copy-requires
moved_copy-requires c =
    let seen = seen-plane c.args.block.now c.outcome.result.now c.in-Plane.plane c.outcome.ensures.view c.outcome.ensures.right c.in-Plane.is in
    subst (λ (t : List Node). All (Fits t) (as_moves c.args.moves.now)) (sym seen.nodes) c.requires.moves

pub returns : goal.returns
returns c =
    let v = c.args.block.now in
    let p : BlockState = c.in-Plane.plane in
    let moves = as_moves c.args.moves.now in
    let seen = seen-plane v c.outcome.result.now p c.outcome.ensures.view c.outcome.ensures.right c.in-Plane.is in
    ok-map c.moved_copy.result (λ q. q ≡ record p { rotation = all_moved p.tree moves p.rotation; choices = q.choices }) (IsAfterMoves v moves)
    (λ q e. after-seen v p q seen moves c.requires.moves e) c.moved_copy.ensures
