use Rattle.std.proofs.Common.{◌≡◌, ℕ, List, map, None, Some, Option}
use Rattle.spqr_session.specs.State.{State}
use Rattle.spqr_session.specs.Embedded.{BlockView, view_tree, view_entry}
use Rattle.spqr_session.specs.Scene.{setting_on}
use Rattle.spqr_session.specs.Codes.{code_text}
use Rattle.spqr_session.specs.BlockCodes.{node_ladder}
use Rattle.pair_split.specs.Kinds.{has_choices}
use Rattle.spqr_session.specs.Planned.{IsVerdict}
use Rattle.spqr_session.specs.declared.code.Code.{Code}
use Rattle.spqr_session.specs.Board.{BoardView, state_on}
use Rattle.spqr_session.specs.Commands.Lock.{LockStep}
use Rattle.spqr_session.proofs.Steps.{text-map}
use Rattle.spqr_session.proofs.Plans.{seen_state}
use Rattle.spqr_session.proofs.BoardStates.{lock-refused, lock-stands, lock-node, lock-done}
use Rattle.spqr_session.proofs.MovesMade.{verdict-on}
use Rattle.spqr_session.proofs.commands.lock.carry_lock.Goals as goal

-- what was found of the blocks holds in the state of the board
verdict : (seen : List BlockView) (board : BoardView) (b k : ℕ) (o : Option Code) → seen ≡ board.views → ((s : State) → s.present.entries ≡ map view_entry seen → IsVerdict (node_ladder has_choices (map view_tree seen) b k s) o)
    → IsVerdict (node_ladder has_choices (map view_tree board.views) b k (seen_state board)) o
verdict seen board b k o e h = verdict-on (λ trees s. node_ladder has_choices trees b k s) seen board o e h

pub set_lock-requires-clause-stands : goal.set_lock-requires-clause-stands
set_lock-requires-clause-stands c =
    let old = c.args.board.now in
    lock-stands c.args.on old c.args.b c.args.k (verdict c.blocks-2.result.now old c.args.b c.args.k None c.blocks-2.ensures c.in-None.ensures)

pub set_lock-requires-clause-node : goal.set_lock-requires-clause-node
set_lock-requires-clause-node c =
    let old = c.args.board.now in
    lock-node c.args.on old c.args.b c.args.k (verdict c.blocks-2.result.now old c.args.b c.args.k None c.blocks-2.ensures c.in-None.ensures)

pub returns-in-Some-clause-step : goal.returns-in-Some-clause-step
returns-in-Some-clause-step c = λ scene together.
    let old = c.args.board.now in
    let code = c.in-Some.code in
    let first = verdict c.blocks-2.result.now old c.args.b c.args.k (Some code) c.blocks-2.ensures c.in-Some.ensures in
    text-map c.line.result (λ text. text ≡ code_text code) (λ text. LockStep c.args.on (setting_on scene old.views) c.args.b c.args.k (state_on scene old.views old) text (state_on scene old.views old))
    (λ text line. lock-refused c.args.on old c.args.b c.args.k scene code text first line) c.line.ensures

pub returns-in_ok-set_lock-in-None-clause-step : goal.returns-in_ok-set_lock-in-None-clause-step
returns-in_ok-set_lock-in-None-clause-step c = λ scene together.
    let old = c.args.board.now in
    lock-done c.args.on old c.args.b c.args.k scene together c.set_lock.new.self c.in_ok-text-in-None.text.items
    (verdict c.blocks-2.result.now old c.args.b c.args.k None c.blocks-2.ensures c.in-None.ensures) c.in_ok-set_lock-in-None.ensures.done c.in_ok-text-in-None.ensures

pub returns-in_ok-set_lock-in-None-clause-setting : goal.returns-in_ok-set_lock-in-None-clause-setting
returns-in_ok-set_lock-in-None-clause-setting c =
    let old = c.args.board.now in
    let none = verdict c.blocks-2.result.now old c.args.b c.args.k None c.blocks-2.ensures c.in-None.ensures in
    let stands = lock-stands c.args.on old c.args.b c.args.k none in
    let goes = c.in_ok-set_lock-in-None.ensures.done stands.0 stands.1 in
    goes.carried
