use Rattle.std.proofs.Common.{◌≡◌, List, map, true, sym, subst}
use Rattle.multigraph.specs.Part.{Rises}
use Rattle.whole_embed.specs.Component.{Component}
use Rattle.whole_embed.proofs.Components.{cuts-rise}
use Rattle.spqr_session.specs.Setting.{IsSetting}
use Rattle.spqr_session.specs.State.{is_planar_component}
use Rattle.spqr_session.specs.Embedded.{BlockView, view_entry}
use Rattle.spqr_session.specs.Scene.{setting_on}
use Rattle.spqr_session.specs.Board.{kept_now}
use Rattle.spqr_session.specs.Wholes.{AreEntries, IsFirstComponent}
use Rattle.spqr_session.proofs.WholesMade.{orders-kept, present-made}
use Rattle.spqr_session.proofs.wholes.present_component.Goals as goal

pub first_component-requires-clause-setting : goal.first_component-requires-clause-setting
first_component-requires-clause-setting c = subst (λ (views : List BlockView). IsSetting (setting_on c.args.scene.now views)) (sym c.blocks-2.ensures) c.requires.setting

pub first_component-requires-clause-entries : goal.first_component-requires-clause-entries
first_component-requires-clause-entries c = subst (λ (views : List BlockView). AreEntries (setting_on c.args.scene.now views) (map view_entry views)) (sym c.blocks-2.ensures) c.requires.family.each

pub first_component-requires-clause-planar : goal.first_component-requires-clause-planar
first_component-requires-clause-planar c = subst (λ (views : List BlockView). is_planar_component (setting_on c.args.scene.now views) c.args.c ≡ true) (sym c.blocks-2.ensures) c.requires.planar

pub set_kept-requires-clause-orders : goal.set_kept-requires-clause-orders
set_kept-requires-clause-orders c =
    let board = c.args.board.now in
    let found = c.in_ok-found.found in
    let first = subst (λ (views : List BlockView). IsFirstComponent (setting_on c.args.scene.now views) (map view_entry views) c.args.c found.0 found.1.items) c.blocks-2.ensures (c.in_ok-found.ensures {u = tt}) in
    orders-kept (setting_on c.args.scene.now board.views) (kept_now board) c.args.c c.requires.setting c.requires.family c.requires.component c.requires.planar found.0 found.1.items first

pub set_kept-requires-clause-increasing : goal.set_kept-requires-clause-increasing
set_kept-requires-clause-increasing c =
    let board = c.args.board.now in
    let found = c.in_ok-found.found in
    let first = subst (λ (views : List BlockView). IsFirstComponent (setting_on c.args.scene.now views) (map view_entry views) c.args.c found.0 found.1.items) c.blocks-2.ensures (c.in_ok-found.ensures {u = tt}) in
    subst (λ (k : Component). Rises k.cuts) (sym first.blocks.component) (cuts-rise c.args.scene.now.named.graph c.args.scene.now.blocks c.args.c c.requires.setting.structure)

pub returns : goal.returns
returns c =
    let board = c.args.board.now in
    let found = c.in_ok-found.found in
    let first = subst (λ (views : List BlockView). IsFirstComponent (setting_on c.args.scene.now views) (map view_entry views) c.args.c found.0 found.1.items) c.blocks-2.ensures (c.in_ok-found.ensures {u = tt}) in
    present-made (setting_on c.args.scene.now board.views) (kept_now board) c.args.c c.requires.setting c.requires.family c.requires.component c.requires.planar found.0 found.1.items first c.set_kept.new.cuts c.set_kept.ensures.each c.set_kept.ensures.set
