use Rattle.std.proofs.Common.{◌≡◌, ◌<◌, List, ℕ, Option, IfOk, true, map, sym, ap, ◌∙◌, subst}
use Rattle.permutations.specs.Members.{is_member}
use Rattle.whole_embed.specs.declared.members.Member.{Member}
use Rattle.whole_embed.specs.Component.{Component, IsComponentInPlane}
use Rattle.whole_embed.specs.Cuts.{blocks_in, HavePlanes}
use Rattle.spqr_session.specs.State.{Embedding, component_at, is_planar_component}
use Rattle.spqr_session.specs.Embedded.{view_entry}
use Rattle.spqr_session.specs.Scene.{setting_on}
use Rattle.spqr_session.specs.Wholes.{AreEntries, HasBlocks, IsRegroupedIn, IsRegrouping}
use Rattle.spqr_session.specs.Commands.Regroup.{component_number}
use Rattle.spqr_session.proofs.ComponentParts.{component-below, cut-there}
use Rattle.spqr_session.proofs.RegroupMade.{regrouped-plan}
use Rattle.spqr_session.proofs.Steps.{ok-map}
use Rattle.spqr_session.proofs.commands.regroup.plan_at.Goals as goal

pub first_component-requires-clause-component : goal.first_component-requires-clause-component
first_component-requires-clause-component c =
    let setting = setting_on c.args.scene.now c.args.blocks.now in
    let cuts = c.requires.setting.structure.cut_vertices in
    subst (λ (z : ℕ). z < c.args.scene.now.blocks.component_count) (sym c.requires.component) (component-below setting c.requires.setting c.args.v (cuts.vertices c.args.v c.requires.cut))

pub arranged_at-requires-clause-vertex : goal.arranged_at-requires-clause-vertex
arranged_at-requires-clause-vertex c =
    let setting = setting_on c.args.scene.now c.args.blocks.now in
    let first = c.in_ok-found.ensures {u = tt} in
    let b = first.blocks in
    subst (λ (k : Component). is_member c.args.v k.cuts ≡ true) (ap (λ (z : ℕ). component_at setting z) (sym c.requires.component) ∙ sym b.component) (cut-there setting c.requires.setting c.args.v c.requires.cut)

pub arranged_at-requires-clause-component : goal.arranged_at-requires-clause-component
arranged_at-requires-clause-component c =
    let first = c.in_ok-found.ensures {u = tt} in
    let b = first.blocks in
    subst (λ (l : List Member). IsComponentInPlane c.in_ok-found.found.0.component (blocks_in l)) (sym c.deref.ensures.value) b.in_plane

pub arranged_at-requires-clause-planes : goal.arranged_at-requires-clause-planes
arranged_at-requires-clause-planes c =
    let first = c.in_ok-found.ensures {u = tt} in
    let b = first.blocks in
    subst (λ (l : List Member). HavePlanes c.in_ok-found.found.0.component l) (sym c.deref.ensures.value) b.planes

pub returns : goal.returns
returns c = λ s e.
    let setting = setting_on c.args.scene.now c.args.blocks.now in
    let found = c.in_ok-found.found in
    let first = c.in_ok-found.ensures {u = tt} in
    let entries : List (Option Embedding) = map view_entry c.args.blocks.now in
    let has : HasBlocks setting s.present.entries (component_number setting c.args.v) found.0 found.1.items =
    subst (λ (es : List (Option Embedding)). HasBlocks setting es (component_number setting c.args.v) found.0 found.1.items) (sym e) (subst (λ (z : ℕ). HasBlocks setting entries z found.0 found.1.items) c.requires.component first.blocks) in
    let right : AreEntries setting s.present.entries = subst (AreEntries setting) (sym e) c.requires.entries in
    let planar = subst (λ (z : ℕ). is_planar_component setting z ≡ true) c.requires.component c.requires.planar in
    ok-map c.arranged_at.result (IsRegroupedIn found.0.component (blocks_in found.1.items) c.args.v c.args.edges.now) (IsRegrouping setting c.args.v c.args.edges.now s)
    (λ planned h. regrouped-plan setting c.args.v c.args.edges.now s c.requires.setting right c.requires.cut planar found.0 found.1.items has planned h)
    (subst (λ (l : List Member). IfOk c.arranged_at.result (IsRegroupedIn found.0.component (blocks_in l) c.args.v c.args.edges.now)) c.deref.ensures.value c.arranged_at.ensures)
