use Rattle.std.proofs.Common.{◌≡◌, List, map, refl, subst}
use Rattle.spqr_session.specs.State.{State}
use Rattle.spqr_session.specs.Embedded.{BlockView, view_tree, view_entry}
use Rattle.spqr_session.specs.Scene.{setting_on}
use Rattle.spqr_session.specs.Board.{state_on}
use Rattle.spqr_session.specs.PlannedMoves.{IsMovesPlanAt, AreSettled}
use Rattle.spqr_session.specs.Trees.{tree_at}
use Rattle.spqr_session.specs.State.{entry_at}
use Rattle.spqr_session.specs.BlockCodes.{read_ladder}
use Rattle.spqr_session.specs.Members.{StandsAt}
use Rattle.spqr_session.specs.Products.{product_rank_codes, GotoByProduct}
use Rattle.spqr_session.proofs.BlockCarried.{entry-rises}
use Rattle.spqr_session.proofs.Steps.{text-map}
use Rattle.spqr_session.proofs.Plans.{seen_state}
use Rattle.spqr_session.proofs.MovesPlanned.{plan-can, moves-step, either-moved}
use Rattle.spqr_session.proofs.commands.walk.carry_goto.Goals as goal

pub settle_moves-requires : goal.settle_moves-requires
settle_moves-requires c =
    let old = c.args.board.now in
    let x = c.in_ok-planned.planned in
    let at = (subst (λ (views : List BlockView). (s : State) → s.present.entries ≡ map view_entry views → IsMovesPlanAt (read_ladder (product_rank_codes c.args.r) (map view_tree views) c.args.b s) (StandsAt c.args.r) views c.args.b x) c.blocks-2.ensures c.in_ok-planned.ensures) (seen_state old) refl in
    plan-can (read_ladder (product_rank_codes c.args.r) (map view_tree old.views) c.args.b (seen_state old)) (StandsAt c.args.r) old.views c.args.b x at

pub returns-clause-step : goal.returns-clause-step
returns-clause-step c = λ scene together.
    let old = c.args.board.now in
    let new = c.settle_moves.new.board in
    let x = c.in_ok-planned.planned in
    let at = (subst (λ (views : List BlockView). (s : State) → s.present.entries ≡ map view_entry views → IsMovesPlanAt (read_ladder (product_rank_codes c.args.r) (map view_tree views) c.args.b s) (StandsAt c.args.r) views c.args.b x) c.blocks-2.ensures c.in_ok-planned.ensures) (seen_state old) refl in
    text-map c.settle_moves.result (λ text. AreSettled c.args.b x old text new) (λ text. GotoByProduct (setting_on scene old.views) c.args.b c.args.r (state_on scene old.views old) text (state_on scene old.views new))
    (λ text h. moves-step scene old together (read_ladder (product_rank_codes c.args.r) (map view_tree old.views) c.args.b (state_on scene old.views old)) (entry-rises (product_rank_codes c.args.r (tree_at (map view_tree old.views) c.args.b)) (λ e. refl) (entry_at (state_on scene old.views old).present c.args.b)) (StandsAt c.args.r) c.args.b new x text at h) c.settle_moves.ensures.done

pub returns-clause-setting : goal.returns-clause-setting
returns-clause-setting c = either-moved c.settle_moves.result c.args.b c.in_ok-planned.planned c.args.board.now c.settle_moves.new.board c.settle_moves.ensures.done c.settle_moves.ensures.memory
