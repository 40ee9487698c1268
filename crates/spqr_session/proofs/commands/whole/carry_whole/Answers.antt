use Rattle.std.proofs.Common.{◌≡◌, List, Some, None, sym, ap, ◌∙◌, subst}
use Rattle.spqr_session.specs.Setting.{IsSetting}
use Rattle.spqr_session.specs.Embedded.{BlockView}
use Rattle.spqr_session.specs.Scene.{setting_on}
use Rattle.spqr_session.specs.Kept.{family_of}
use Rattle.spqr_session.specs.Board.{state_on, kept_now}
use Rattle.spqr_session.specs.Codes.{code_text, first_code}
use Rattle.spqr_session.specs.Components.{component_ladder}
use Rattle.spqr_session.specs.Commands.Whole.{WholeStep}
use Rattle.spqr_session.specs.Wholes.{IsWholeTold}
use Rattle.spqr_session.proofs.Steps.{text-map}
use Rattle.spqr_session.proofs.ComponentCarried.{component-there}
use Rattle.spqr_session.proofs.WholeCarried.{whole-refused, whole-done}
use Rattle.spqr_session.proofs.commands.whole.carry_whole.Goals as goal

pub component_code-requires : goal.component_code-requires
component_code-requires c = subst (λ (views : List BlockView). IsSetting (setting_on c.args.scene.now views)) (sym c.blocks-2.ensures) c.requires.setting

pub returns-in-Some : goal.returns-in-Some
returns-in-Some c =
    let board = c.args.board.now in
    let setting = setting_on c.args.scene.now board.views in
    let s = state_on c.args.scene.now board.views board in
    let first : first_code (component_ladder setting c.args.c) ≡ Some c.in-Some.code =
    ap (λ (views : List BlockView). first_code (component_ladder (setting_on c.args.scene.now views) c.args.c)) (sym c.blocks-2.ensures) ∙ c.component_code.ensures ∙ c.in-Some.is in
    text-map c.line.result (λ text. text ≡ code_text c.in-Some.code) (λ text. WholeStep setting c.args.c s text s) (λ text e. whole-refused setting c.args.c s c.in-Some.code text first e) c.line.ensures

pub line_of-requires-clause-component : goal.line_of-requires-clause-component
line_of-requires-clause-component c =
    let setting = setting_on c.args.scene.now c.args.board.now.views in
    let none : first_code (component_ladder setting c.args.c) ≡ None =
    ap (λ (views : List BlockView). first_code (component_ladder (setting_on c.args.scene.now views) c.args.c)) (sym c.blocks-2.ensures) ∙ c.component_code.ensures ∙ c.in-None.is in
    (component-there setting c.args.c none).0

pub line_of-requires-clause-planar : goal.line_of-requires-clause-planar
line_of-requires-clause-planar c =
    let setting = setting_on c.args.scene.now c.args.board.now.views in
    let none : first_code (component_ladder setting c.args.c) ≡ None =
    ap (λ (views : List BlockView). first_code (component_ladder (setting_on c.args.scene.now views) c.args.c)) (sym c.blocks-2.ensures) ∙ c.component_code.ensures ∙ c.in-None.is in
    (component-there setting c.args.c none).1

pub line_of-requires-clause-family : goal.line_of-requires-clause-family
line_of-requires-clause-family c = let s = c.requires.state in s.present

pub returns-in-None : goal.returns-in-None
returns-in-None c =
    let board = c.args.board.now in
    let setting = setting_on c.args.scene.now board.views in
    let s = state_on c.args.scene.now board.views board in
    let none : first_code (component_ladder setting c.args.c) ≡ None =
    ap (λ (views : List BlockView). first_code (component_ladder (setting_on c.args.scene.now views) c.args.c)) (sym c.blocks-2.ensures) ∙ c.component_code.ensures ∙ c.in-None.is in
    text-map c.line_of.result (IsWholeTold setting c.args.c (family_of setting (kept_now board))) (λ text. WholeStep setting c.args.c s text s) (λ text h. whole-done setting c.args.c s text none h) c.line_of.ensures
