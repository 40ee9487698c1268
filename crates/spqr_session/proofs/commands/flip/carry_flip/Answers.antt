use Rattle.std.proofs.Common.{◌≡◌, [], ◌∷◌, map, None, Some}
use Rattle.skeletons.specs.Moves.{flip}
use Rattle.spqr_script.specs.Answers.Change.{ok_text}
use Rattle.spqr_session.specs.Embedded.{view_tree}
use Rattle.spqr_session.specs.Scene.{setting_on}
use Rattle.spqr_session.specs.Codes.{code_text}
use Rattle.spqr_session.specs.BlockCodes.{ChangesBlock, Silently}
use Rattle.spqr_session.specs.Board.{AreMade, state_on}
use Rattle.spqr_session.specs.Commands.Flip.{flip_ladder, IsFlipped, FlipStep}
use Rattle.spqr_session.proofs.MovesCarried.{flip-rises}
use Rattle.spqr_session.proofs.Ladders.{refused-first}
use Rattle.spqr_session.proofs.Steps.{text-map}
use Rattle.spqr_session.proofs.MovesMade.{verdict-on, made-carried, both-map, flip-can, flip-done}
use Rattle.spqr_session.proofs.commands.flip.carry_flip.Goals as goal

pub make_move-requires : goal.make_move-requires
make_move-requires c =
    let old = c.args.board.now in
    flip-can old c.args.b c.args.k (verdict-on (λ trees s. flip_ladder trees c.args.b c.args.k s) c.blocks-2.result.now old None c.blocks-2.ensures c.in-None.ensures)

pub returns-in-Some-clause-step : goal.returns-in-Some-clause-step
returns-in-Some-clause-step c = λ scene together.
    let old = c.args.board.now in
    let ladder = flip_ladder (map view_tree old.views) c.args.b c.args.k (state_on scene old.views old) in
    let first = verdict-on (λ trees s. flip_ladder trees c.args.b c.args.k s) c.blocks-2.result.now old (Some c.in-Some.code) c.blocks-2.ensures c.in-Some.ensures in
    text-map c.line.result (λ text. text ≡ code_text c.in-Some.code) (λ text. FlipStep (setting_on scene old.views) c.args.b c.args.k (state_on scene old.views old) text (state_on scene old.views old))
    (λ text line. refused-first ladder (flip-rises (map view_tree old.views) c.args.b c.args.k (state_on scene old.views old)) (ChangesBlock (setting_on scene old.views) c.args.b (Silently (IsFlipped c.args.k))) (state_on scene old.views old) c.in-Some.code text first line) c.line.ensures

pub returns-in-None-clause-step : goal.returns-in-None-clause-step
returns-in-None-clause-step c = λ scene together.
    let old = c.args.board.now in
    let new = c.make_move.new.board in
    let none = verdict-on (λ trees s. flip_ladder trees c.args.b c.args.k s) c.blocks-2.result.now old None c.blocks-2.ensures c.in-None.ensures in
    both-map c.make_move.result (λ text. text ≡ ok_text) (λ text. FlipStep (setting_on scene old.views) c.args.b c.args.k (state_on scene old.views old) text (state_on scene old.views new)) (AreMade old c.args.b (flip c.args.k ∷ []) new)
    (λ text t m. flip-done old c.args.b scene together c.args.k new text none t m) c.make_move.ensures.text c.make_move.ensures.made

pub returns-in-None-clause-setting : goal.returns-in-None-clause-setting
returns-in-None-clause-setting c = made-carried c.make_move.result c.args.board.now c.args.b (flip c.args.k ∷ []) c.make_move.new.board c.make_move.ensures.made c.make_move.ensures.memory
