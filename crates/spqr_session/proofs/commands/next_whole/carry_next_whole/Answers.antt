use Rattle.std.proofs.Common.{◌≡◌, List, Some, refl, sym, ap, ◌∙◌}
use Rattle.spqr_session.specs.Embedded.{BlockView}
use Rattle.spqr_session.specs.Scene.{setting_on}
use Rattle.spqr_session.specs.Board.{state_on}
use Rattle.spqr_session.specs.Codes.{code_text, first_code}
use Rattle.spqr_session.specs.Components.{component_ladder}
use Rattle.spqr_session.specs.Commands.NextWhole.{NextWholeDoes, NextWholeStep}
use Rattle.spqr_session.proofs.Steps.{text-map}
use Rattle.spqr_session.proofs.Ladders.{refused-first}
use Rattle.spqr_session.proofs.commands.next_whole.carry_next_whole.Goals as goal

pub returns-in-Some-clause-step : goal.returns-in-Some-clause-step
returns-in-Some-clause-step c =
    let board = c.args.board.now in
    let setting = setting_on c.args.scene.now board.views in
    let s = state_on c.args.scene.now board.views board in
    let first : first_code (component_ladder setting c.args.c) ≡ Some c.in-Some.code =
    ap (λ (views : List BlockView). first_code (component_ladder (setting_on c.args.scene.now views) c.args.c)) (sym c.blocks-2.ensures) ∙ c.component_code.ensures ∙ c.in-Some.is in
    text-map c.line.result (λ text. text ≡ code_text c.in-Some.code) (λ text. NextWholeStep setting c.args.c s text s)
    (λ text e. refused-first (component_ladder setting c.args.c) refl (NextWholeDoes setting c.args.c) s c.in-Some.code text first e) c.line.ensures
