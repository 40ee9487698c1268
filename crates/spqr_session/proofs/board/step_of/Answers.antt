use Rattle.std.proofs.Common.{◌∙◌, refl, ap, subst}
use Rattle.skel_embed.specs.Values.{as_moves}
use Rattle.spqr_session.specs.Moved.{all_moved, LeadBack}
use Rattle.spqr_session.specs.Embedded.{BlockView, view_entry, IsInPlane, view_at}
use Rattle.spqr_session.proofs.BlockTrees.{view-at}
use Rattle.spqr_session.proofs.BoardSteps.{made-leads}
use Rattle.spqr_session.proofs.board.step_of.Goals as goal

pub returns-clause-leads : goal.returns-clause-leads
returns-clause-leads c = λ e lists at clears.
    let views = c.args.blocks.now in
    let b = c.args.b in
    let v = c.index-blocks-b.result in
    let found = view-at views b v c.requires.stands.within c.index-blocks-b.is in
    let forth = as_moves c.args.forth in
    let back = subst (λ (x : BlockView). LeadBack x.tree.nodes e.rotation forth (as_moves c.in_ok-back.back)) found (c.in_ok-back.ensures e (ap view_entry found ∙ at.entry)) in
    made-leads views b e at lists c.args.cuts clears (all_moved (view_at views b).tree.nodes forth e.rotation) e.locks c.in_ok-in_block.field-0 c.in_ok-in_block-2.field-0 forth (as_moves c.in_ok-back.back) refl
    c.in_ok-in_block.ensures c.in_ok-in_block-2.ensures c.requires.are.fit back.fit refl back.returns

pub returns-clause-plane : goal.returns-clause-plane
returns-clause-plane c = subst IsInPlane (view-at c.args.blocks.now c.args.b c.index-blocks-b.result c.requires.stands.within c.index-blocks-b.is) c.belongs.ensures

pub returns-in_err-back-clause-plane : goal.returns-in_err-back-clause-plane
returns-in_err-back-clause-plane c = subst IsInPlane (view-at c.args.blocks.now c.args.b c.index-blocks-b.result c.requires.stands.within c.index-blocks-b.is) c.belongs.ensures

pub returns-in_err-in_block-clause-plane : goal.returns-in_err-in_block-clause-plane
returns-in_err-in_block-clause-plane c = subst IsInPlane (view-at c.args.blocks.now c.args.b c.index-blocks-b.result c.requires.stands.within c.index-blocks-b.is) c.belongs.ensures

pub returns-in_err-in_block-2-clause-plane : goal.returns-in_err-in_block-2-clause-plane
returns-in_err-in_block-2-clause-plane c = subst IsInPlane (view-at c.args.blocks.now c.args.b c.index-blocks-b.result c.requires.stands.within c.index-blocks-b.is) c.belongs.ensures
