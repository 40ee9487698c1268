use Rattle.std.proofs.Common.{◌≡◌, ◌<◌, true, Option, length, slice_index, sym, ap, ◌∙◌, subst, arith}
use Rattle.blocks.specs.Blocks.{block_at}
use Rattle.kuratowski.specs.declared.subdivision.Subdivision.{Subdivision}
use Rattle.whole_embed.specs.Component.{has_edge}
use Rattle.spqr_session.specs.State.{lacks_certificate}
use Rattle.spqr_session.specs.Embedded.{BlockView, view_at}
use Rattle.spqr_session.specs.Scene.{setting_on}
use Rattle.spqr_session.proofs.BlockTrees.{view-at, view-within}
use Rattle.spqr_session.proofs.Views.{certificates-at}
use Rattle.spqr_session.proofs.WholesMade.{planar-none, planar-more, planar-all, planar-fails, not-hindered, hindered}
use Rattle.spqr_session.proofs.wholes.is_planar_component.Goals as goal

pub loop-b-init : goal.loop-b-init
loop-b-init c = planar-none (setting_on c.args.scene.now c.args.blocks.now) c.requires c.args.c

pub loop-b-preserved : goal.loop-b-preserved
loop-b-preserved c =
    let b = c.loop-b.b in
    let g = c.args.scene.now.named.graph in
    let s = c.args.scene.now.blocks in
    let views = c.args.blocks.now in
    let v = c.index-blocks-b.result in
    let within : c.loop-b.b < length c.args.scene.now.blocks.blocks = omega (arith, c.loop-b-test.true, c.block_count-b-end.ensures) in
    let at : v ≡ view_at views b = view-at views b v (view-within g s.blocks views b c.requires.trees within) c.index-blocks-b.is in
    planar-more (setting_on c.args.scene.now views) c.requires c.args.c b c.loop-b.invariant (λ h.
    subst (λ (x : Option Subdivision). lacks_certificate x ≡ true) (ap (λ (x : BlockView). x.certificate) at ∙ sym (certificates-at views b))
    (not-hindered c.hinders.result (has_edge g s c.args.c (slice_index (block_at s.blocks b) 0)) (lacks_certificate v.certificate) c.hinders.ensures c.if-hinders.false h))

pub returns-then-hinders : goal.returns-then-hinders
returns-then-hinders c =
    let b = c.loop-b.b in
    let g = c.args.scene.now.named.graph in
    let s = c.args.scene.now.blocks in
    let views = c.args.blocks.now in
    let v = c.index-blocks-b.result in
    let within : c.loop-b.b < length c.args.scene.now.blocks.blocks = omega (arith, c.loop-b-test.true, c.block_count-b-end.ensures) in
    let at : v ≡ view_at views b = view-at views b v (view-within g s.blocks views b c.requires.trees within) c.index-blocks-b.is in
    let w = hindered c.hinders.result (has_edge g s c.args.c (slice_index (block_at s.blocks b) 0)) (lacks_certificate v.certificate) c.hinders.ensures c.if-hinders.true in
    sym (planar-fails (setting_on c.args.scene.now views) c.requires c.args.c b within w.0
    (ap lacks_certificate (certificates-at views b ∙ sym (ap (λ (x : BlockView). x.certificate) at)) ∙ w.1))

pub returns : goal.returns
returns c = sym (planar-all (setting_on c.args.scene.now c.args.blocks.now) c.requires c.args.c (λ b l h. c.loop-b.invariant b (omega (arith, l, c.loop-b-test.false, c.block_count-b-end.ensures)) h))
