use Rattle.std.proofs.Common.{subst}
use Rattle.faces.proofs.MapMirror.{mirror-image-twice}
use Rattle.spqr_session.specs.Embedded.{IsInPlane, view_at}
use Rattle.spqr_session.proofs.BlockTrees.{view-at}
use Rattle.spqr_session.proofs.BoardSteps.{mirror-leads}
use Rattle.spqr_session.proofs.board.mirror_step.Goals as goal

pub returns-clause-leads : goal.returns-clause-leads
returns-clause-leads c = λ e lists at clears.
    let views = c.args.blocks.now in
    let b = c.args.b in
    let found = view-at views b c.index-blocks-b.result c.requires.1.within c.index-blocks-b.is in
    let right = subst IsInPlane found c.belongs.ensures e at.entry in
    mirror-leads views b e at lists c.args.cuts clears (mirror-image-twice (view_at views b).tree.part.graph e.rotation right.1.system)

pub returns-clause-plane : goal.returns-clause-plane
returns-clause-plane c = subst IsInPlane (view-at c.args.blocks.now c.args.b c.index-blocks-b.result c.requires.1.within c.index-blocks-b.is) c.belongs.ensures
