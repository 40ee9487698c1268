use Rattle.std.proofs.Common.{sym, ap, ◌∙◌, refl, subst}
use Rattle.multigraph.specs.Graph.{Multigraph}
use Rattle.whole_embed.specs.Component.{component_of, AreInPlane}
use Rattle.whole_embed.specs.Cuts.{blocks_in, HavePlanes}
use Rattle.spqr_session.specs.Scene.{setting_on}
use Rattle.spqr_session.proofs.WholesMade.{blocks-right, planes-right, first-made}
use Rattle.spqr_session.proofs.wholes.first_cuts.Goals as goal

pub first-requires-clause-blocks : goal.first-requires-clause-blocks
first-requires-clause-blocks c = subst (λ (g : Multigraph). AreInPlane g c.args.scene.now.blocks c.args.c (blocks_in c.args.all.now)) (sym c.graph.ensures.value)
    (blocks-right (setting_on c.args.scene.now c.args.blocks.now) c.args.blocks.now c.args.c c.requires.setting refl c.requires.entries c.requires.component c.requires.planar c.args.all.now c.requires.members)

pub first-requires-clause-planes : goal.first-requires-clause-planes
first-requires-clause-planes c = subst (λ (g : Multigraph). HavePlanes (component_of g c.args.scene.now.blocks c.args.c) c.args.all.now) (sym c.graph.ensures.value)
    (planes-right (setting_on c.args.scene.now c.args.blocks.now) c.args.blocks.now c.args.c c.requires.setting refl c.requires.entries c.requires.component c.requires.planar c.args.all.now c.requires.members)

pub returns : goal.returns
returns c =
    let made = c.in_ok-cuts.ensures {u = tt} in
    first-made (setting_on c.args.scene.now c.args.blocks.now) c.args.blocks.now c.args.c c.requires.setting refl c.requires.entries c.requires.component c.requires.planar c.args.all.now c.requires.members c.in_ok-cuts.cuts c.keeps.ensures
    (made.component ∙ ap (λ (g : Multigraph). component_of g c.args.scene.now.blocks c.args.c) c.graph.ensures.value) made.first
