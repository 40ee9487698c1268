use Rattle.std.proofs.Common.{◌≡◌, subst}
use Rattle.skel_embed.specs.declared.planes.Outcome.{Outcome}
use Rattle.skel_embed.specs.declared.planes.Outcome.TheVariants.{Plane}
use Rattle.spqr_session.specs.Embedded.{BlockView, block_view, IsEmbedded}
use Rattle.spqr_session.proofs.BlockTrees.{view-at}
use Rattle.spqr_session.proofs.BoardSteps.{plane-leads}
use Rattle.spqr_session.proofs.board.step_to.Goals as goal

pub returns : goal.returns
returns c = λ lists clears.
    let views = c.args.blocks.now in
    let v = c.index-blocks-b.result in
    let can = c.requires.1 in
    let found = view-at views c.args.b v can.stands.within c.index-blocks-b.is in
    let seen = subst (λ (o : Outcome). block_view v.tree.part o ≡ v) c.in-Plane.is c.outcome.ensures.view in
    let right = subst (λ (o : Outcome). IsEmbedded v.tree.part o) c.in-Plane.is c.outcome.ensures.right in
    plane-leads views c.args.b c.requires.0 can.stands lists c.args.cuts clears c.in-Plane.present c.args.plane.now c.in_ok-moves_to-in-Plane.field-0 c.in_ok-moves_to-in-Plane-2.field-0
    (subst (λ (x : BlockView). block_view x.tree.part (Plane c.in-Plane.present) ≡ x) found seen) (subst (λ (x : BlockView). IsEmbedded x.tree.part (Plane c.in-Plane.present)) found right)
    can c.belongs.ensures c.in_ok-moves_to-in-Plane.ensures c.in_ok-moves_to-in-Plane-2.ensures
