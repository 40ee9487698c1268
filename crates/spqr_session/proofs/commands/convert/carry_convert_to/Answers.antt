use Rattle.std.proofs.Common.{◌≡◌, List, map, refl, subst}
use Rattle.spqr_session.specs.State.{State}
use Rattle.spqr_session.specs.Embedded.{BlockView, view_tree, view_entry}
use Rattle.spqr_session.specs.Scene.{setting_on}
use Rattle.spqr_session.specs.Board.{state_on}
use Rattle.spqr_session.specs.Planned.{IsLowestPlanAt, IsConverted}
use Rattle.spqr_session.specs.Commands.Take.{TakeApplies, IsTaken}
use Rattle.spqr_session.specs.Commands.Convert.{ConvertToStep}
use Rattle.spqr_session.proofs.Steps.{text-map}
use Rattle.spqr_session.proofs.LowestPlans.{lowest-stands, lowest-converted, either-converted}
use Rattle.spqr_session.proofs.Plans.{seen_state}
use Rattle.spqr_session.proofs.commands.convert.carry_convert_to.Goals as goal

pub convert-requires : goal.convert-requires
convert-requires c =
    let old = c.args.board.now in
    let entries = c.args.lists.now in
    let x = c.in_ok-planned.planned in
    let at = (subst (λ (views : List BlockView). (s : State) → s.present.entries ≡ map view_entry views → IsLowestPlanAt (TakeApplies (map view_tree views) c.args.b entries s) (IsTaken entries) views c.args.b x) c.blocks-2.ensures c.in_ok-planned.ensures) (seen_state old) refl in
    lowest-stands (TakeApplies (map view_tree old.views) c.args.b entries (seen_state old)) (IsTaken entries) old.views c.args.b x at

pub returns-clause-step : goal.returns-clause-step
returns-clause-step c = λ scene together.
    let old = c.args.board.now in
    let new = c.convert.new.board in
    let entries = c.args.lists.now in
    let x = c.in_ok-planned.planned in
    let at = (subst (λ (views : List BlockView). (s : State) → s.present.entries ≡ map view_entry views → IsLowestPlanAt (TakeApplies (map view_tree views) c.args.b entries s) (IsTaken entries) views c.args.b x) c.blocks-2.ensures c.in_ok-planned.ensures) (seen_state old) refl in
    text-map c.convert.result (λ text. IsConverted c.args.b x old text new) (λ text. ConvertToStep (setting_on scene old.views) c.args.b entries (state_on scene old.views old) text (state_on scene old.views new))
    (λ text h. lowest-converted (TakeApplies (map view_tree old.views) c.args.b entries (state_on scene old.views old)) (IsTaken entries) scene old together c.args.b new x text at h) c.convert.ensures.done

pub returns-clause-setting : goal.returns-clause-setting
returns-clause-setting c = either-converted c.convert.result c.args.b c.in_ok-planned.planned c.args.board.now c.convert.new.board c.convert.ensures.done c.convert.ensures.memory
