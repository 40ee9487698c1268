use Rattle.std.proofs.Common.{◌≡◌}
use Rattle.spqr_session.specs.Codes.{code_text}
use Rattle.spqr_session.specs.declared.code.Code.TheVariants.{NothingToUndo}
use Rattle.spqr_session.specs.Scene.{setting_on}
use Rattle.spqr_session.specs.Board.{state_on}
use Rattle.spqr_session.specs.Commands.History.{is_none, UndoStep}
use Rattle.spqr_session.proofs.Steps.{text-map}
use Rattle.spqr_session.proofs.BoardStates.{undo-refused, nothing-there}
use Rattle.spqr_session.proofs.commands.history.carry_undo.Goals as goal

pub returns-then-not-can_undo-clause-step : goal.returns-then-not-can_undo-clause-step
returns-then-not-can_undo-clause-step c = λ scene.
    let old = c.args.board.now in
    text-map c.line.result (λ text. text ≡ code_text NothingToUndo) (λ text. UndoStep (state_on scene old.views old) text (state_on scene old.views old))
    (λ text line. undo-refused (setting_on scene old.views) old text (nothing-there c.can_undo.result (is_none old.earlier) c.can_undo.ensures c.if-not-can_undo.true) line) c.line.ensures
