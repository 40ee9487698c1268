use Rattle.std.proofs.Common.{◌≡◌, ℕ, List, map, refl, subst}
use Rattle.spqr_session.specs.Trees.{tree_at}
use Rattle.spqr_session.specs.State.{State, entry_at}
use Rattle.spqr_session.specs.Embedded.{BlockView, view_tree, view_entry}
use Rattle.spqr_session.specs.Scene.{setting_on}
use Rattle.spqr_session.specs.Board.{BoardView, state_on}
use Rattle.spqr_session.specs.Codes.{Applies}
use Rattle.spqr_session.specs.BlockCodes.{read_ladder}
use Rattle.spqr_session.specs.Members.{StandsAt}
use Rattle.spqr_session.specs.Products.{product_rank_codes, ConvertByProduct}
use Rattle.spqr_session.specs.Planned.{IsPlanAt, IsLowestPlanAt, IsConverted}
use Rattle.spqr_session.specs.declared.planned.Planned.{Planned}
use Rattle.spqr_session.proofs.BlockCarried.{entry-rises}
use Rattle.spqr_session.proofs.Steps.{text-map}
use Rattle.spqr_session.proofs.LowestPlans.{ladder-lowest, lowest-stands, lowest-converted, either-converted}
use Rattle.spqr_session.proofs.Plans.{seen_state}
use Rattle.spqr_session.proofs.commands.convert.carry_convert_rank.Goals as goal

-- the plan of the way to a rank, on the board
planned-at : (r b : ℕ) (old : BoardView) (views : List BlockView) (x : Planned) → views ≡ old.views → ((s : State) → s.present.entries ≡ map view_entry views → IsPlanAt (read_ladder (product_rank_codes r) (map view_tree views) b s) (StandsAt r) views b x)
    → IsLowestPlanAt (Applies (read_ladder (product_rank_codes r) (map view_tree old.views) b (seen_state old))) (StandsAt r) old.views b x
planned-at r b old views x same h = ladder-lowest (read_ladder (product_rank_codes r) (map view_tree old.views) b (seen_state old))
    (entry-rises (product_rank_codes r (tree_at (map view_tree old.views) b)) (λ e. refl) (entry_at (seen_state old).present b)) (StandsAt r) old.views b x
    ((subst (λ (l : List BlockView). (s : State) → s.present.entries ≡ map view_entry l → IsPlanAt (read_ladder (product_rank_codes r) (map view_tree l) b s) (StandsAt r) l b x) same h) (seen_state old) refl)

pub convert-requires : goal.convert-requires
convert-requires c =
    let old = c.args.board.now in
    let x = c.in_ok-planned.planned in
    lowest-stands (Applies (read_ladder (product_rank_codes c.args.r) (map view_tree old.views) c.args.b (seen_state old))) (StandsAt c.args.r) old.views c.args.b x
    (planned-at c.args.r c.args.b old c.blocks-2.result.now x c.blocks-2.ensures c.in_ok-planned.ensures)

pub returns-clause-step : goal.returns-clause-step
returns-clause-step c = λ scene together.
    let old = c.args.board.now in
    let new = c.convert.new.board in
    let x = c.in_ok-planned.planned in
    text-map c.convert.result (λ text. IsConverted c.args.b x old text new) (λ text. ConvertByProduct (setting_on scene old.views) c.args.b c.args.r (state_on scene old.views old) text (state_on scene old.views new))
    (λ text h. lowest-converted (Applies (read_ladder (product_rank_codes c.args.r) (map view_tree old.views) c.args.b (state_on scene old.views old))) (StandsAt c.args.r) scene old together c.args.b new x text
    (planned-at c.args.r c.args.b old c.blocks-2.result.now x c.blocks-2.ensures c.in_ok-planned.ensures) h) c.convert.ensures.done

pub returns-clause-setting : goal.returns-clause-setting
returns-clause-setting c = either-converted c.convert.result c.args.b c.in_ok-planned.planned c.args.board.now c.convert.new.board c.convert.ensures.done c.convert.ensures.memory
