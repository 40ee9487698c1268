use Rattle.std.proofs.Common.{◌≡◌, List, map, refl, subst}
use Rattle.spqr_session.specs.State.{State}
use Rattle.spqr_session.specs.Embedded.{BlockView, view_tree, view_entry}
use Rattle.spqr_session.specs.Scene.{setting_on}
use Rattle.spqr_session.specs.Board.{state_on}
use Rattle.spqr_session.specs.PlannedMoves.{IsNextPlanAt, AreSettled}
use Rattle.spqr_session.specs.BlockCodes.{block_ladder}
use Rattle.spqr_session.specs.Commands.Walk.{NextStep}
use Rattle.spqr_session.proofs.WalkPlans.{next-can, next-settled}
use Rattle.spqr_session.proofs.Steps.{text-map}
use Rattle.spqr_session.proofs.Plans.{seen_state}
use Rattle.spqr_session.proofs.MovesPlanned.{either-moved}
use Rattle.spqr_session.proofs.commands.walk.carry_next.Goals as goal

pub settle_moves-requires : goal.settle_moves-requires
settle_moves-requires c =
    let old = c.args.board.now in
    let x = c.in_ok-planned.planned in
    let at = (subst (λ (views : List BlockView). (s : State) → s.present.entries ≡ map view_entry views → IsNextPlanAt (block_ladder (map view_tree views) c.args.b s) views c.args.b x) c.blocks-2.ensures c.in_ok-planned.ensures) (seen_state old) refl in
    next-can (block_ladder (map view_tree old.views) c.args.b (seen_state old)) old.views c.args.b x at

pub returns-clause-step : goal.returns-clause-step
returns-clause-step c = λ scene together.
    let old = c.args.board.now in
    let new = c.settle_moves.new.board in
    let x = c.in_ok-planned.planned in
    let at = (subst (λ (views : List BlockView). (s : State) → s.present.entries ≡ map view_entry views → IsNextPlanAt (block_ladder (map view_tree views) c.args.b s) views c.args.b x) c.blocks-2.ensures c.in_ok-planned.ensures) (seen_state old) refl in
    text-map c.settle_moves.result (λ text. AreSettled c.args.b x old text new) (λ text. NextStep (setting_on scene old.views) c.args.b (state_on scene old.views old) text (state_on scene old.views new))
    (λ text h. next-settled scene old together c.args.b new x text at h) c.settle_moves.ensures.done

pub returns-clause-setting : goal.returns-clause-setting
returns-clause-setting c = either-moved c.settle_moves.result c.args.b c.in_ok-planned.planned c.args.board.now c.settle_moves.new.board c.settle_moves.ensures.done c.settle_moves.ensures.memory
