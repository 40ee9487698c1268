use Rattle.std.proofs.Common.{◌≡◌, List, map, refl, sym, subst}
use Rattle.spqr_session.specs.Setting.{IsSetting}
use Rattle.spqr_session.specs.State.{State}
use Rattle.spqr_session.specs.Embedded.{BlockView, view_entry}
use Rattle.spqr_session.specs.Scene.{setting_on}
use Rattle.spqr_session.specs.Board.{board_state}
use Rattle.spqr_session.specs.Wholes.{AreEntries, IsRegrouping, IsRegrouped}
use Rattle.spqr_session.specs.Commands.Regroup.{RegroupStep}
use Rattle.spqr_session.proofs.Steps.{text-map}
use Rattle.spqr_session.proofs.RegroupMade.{regroup-done}
use Rattle.spqr_session.proofs.commands.regroup.carry_regroup.Goals as goal

pub plan_regroup-requires-clause-setting : goal.plan_regroup-requires-clause-setting
plan_regroup-requires-clause-setting c = subst (λ (views : List BlockView). IsSetting (setting_on c.args.scene.now views)) (sym c.blocks-2.ensures) c.requires.setting

pub plan_regroup-requires-clause-entries : goal.plan_regroup-requires-clause-entries
plan_regroup-requires-clause-entries c = let s = c.requires.state in
    let f = s.present in
    subst (λ (views : List BlockView). AreEntries (setting_on c.args.scene.now views) (map view_entry views)) (sym c.blocks-2.ensures) f.each

pub returns-clause-step : goal.returns-clause-step
returns-clause-step c =
    let old = c.args.board.now in
    let new = c.settle.new.board in
    let scene = c.args.scene.now in
    let edges = c.args.edges.now in
    let planned = c.in_ok-planned.planned in
    let setting = setting_on scene old.views in
    let found = (subst (λ (views : List BlockView). (s : State) → s.present.entries ≡ map view_entry views → IsRegrouping (setting_on scene views) c.args.v edges s planned) c.blocks-2.ensures (c.in_ok-planned.ensures {u = tt})) (board_state setting old) refl in
    text-map c.settle.result (λ text. IsRegrouped c.args.v planned old text new) (λ text. RegroupStep setting c.args.v edges (board_state setting old) text (board_state setting new))
    (λ text h. regroup-done setting c.args.v edges old new c.requires.setting c.keeps_places.ensures planned text found h) c.settle.ensures.done
