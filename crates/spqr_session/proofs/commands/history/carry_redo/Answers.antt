use Rattle.std.proofs.Common.{◌≡◌}
use Rattle.spqr_session.specs.Codes.{code_text}
use Rattle.spqr_session.specs.declared.code.Code.TheVariants.{NothingToRedo}
use Rattle.spqr_session.specs.Scene.{setting_on}
use Rattle.spqr_session.specs.Board.{state_on}
use Rattle.spqr_session.specs.Commands.History.{is_none, RedoStep}
use Rattle.spqr_session.proofs.Steps.{text-map}
use Rattle.spqr_session.proofs.BoardStates.{redo-refused, nothing-there}
use Rattle.spqr_session.proofs.commands.history.carry_redo.Goals as goal

pub returns-then-not-can_redo-clause-step : goal.returns-then-not-can_redo-clause-step
returns-then-not-can_redo-clause-step c = λ scene.
    let old = c.args.board.now in
    text-map c.line.result (λ text. text ≡ code_text NothingToRedo) (λ text. RedoStep (state_on scene old.views old) text (state_on scene old.views old))
    (λ text line. redo-refused (setting_on scene old.views) old text (nothing-there c.can_redo.result (is_none old.later) c.can_redo.ensures c.if-not-can_redo.true) line) c.line.ensures
