use Rattle.std.proofs.Common.{ap, ◌∙◌}
use Rattle.whole_embed.specs.declared.members.Member.{Member}
use Rattle.spqr_session.proofs.BlockTrees.{view-at}
use Rattle.spqr_session.proofs.Steps.{ok-map}
use Rattle.spqr_session.proofs.WholesFirst.{back-is, member-read}
use Rattle.spqr_session.proofs.whole_steps.back_of.Goals as goal

pub returns : goal.returns
returns c =
    let views = c.args.blocks.now in
    let all = c.args.all.now in
    let v = c.index-blocks-b.result in
    let m = c.index-all-b.result in
    ok-map c.moves.result _ _ (λ list e. e ∙ back-is views all c.args.b v c.outcome.result.now c.in-Plane-Some.old c.in-Plane-Some.new m
    (view-at views c.args.b v c.requires.fits.stands.within c.index-blocks-b.is) c.outcome.ensures.view c.in-Plane-Some.is-0 (member-read all c.args.b m c.requires.within c.index-all-b.is) (ap (λ (x : Member). x.plane) c.index-all-b.is ∙ c.in-Plane-Some.is-1) c.requires.fits) c.moves.ensures.moves
