use Rattle.std.proofs.Common.{◌≡◌, map, None, Some}
use Rattle.spqr_session.specs.Embedded.{view_tree}
use Rattle.spqr_session.specs.Scene.{setting_on}
use Rattle.spqr_session.specs.Codes.{code_text}
use Rattle.spqr_session.specs.BlockCodes.{ChangesBlock, Silently, read_ladder}
use Rattle.spqr_session.specs.Board.{state_on}
use Rattle.spqr_session.specs.Commands.Mirror.{mirror_codes, IsMirrored, MirrorStep}
use Rattle.spqr_session.proofs.MovesCarried.{mirror-rises}
use Rattle.spqr_session.proofs.Ladders.{refused-first}
use Rattle.spqr_session.proofs.Steps.{text-map}
use Rattle.spqr_session.proofs.MovesMade.{verdict-on, mirrored-carried, mirror-stands, mirror-done}
use Rattle.spqr_session.proofs.commands.mirror.carry_mirror.Goals as goal

pub mirror-requires : goal.mirror-requires
mirror-requires c =
    let old = c.args.board.now in
    mirror-stands old c.args.b (verdict-on (λ trees s. read_ladder mirror_codes trees c.args.b s) c.blocks-2.result.now old None c.blocks-2.ensures c.in-None.ensures)

pub returns-in-Some-clause-step : goal.returns-in-Some-clause-step
returns-in-Some-clause-step c = λ scene together.
    let old = c.args.board.now in
    let ladder = read_ladder mirror_codes (map view_tree old.views) c.args.b (state_on scene old.views old) in
    let first = verdict-on (λ trees s. read_ladder mirror_codes trees c.args.b s) c.blocks-2.result.now old (Some c.in-Some.code) c.blocks-2.ensures c.in-Some.ensures in
    text-map c.line.result (λ text. text ≡ code_text c.in-Some.code) (λ text. MirrorStep (setting_on scene old.views) c.args.b (state_on scene old.views old) text (state_on scene old.views old))
    (λ text line. refused-first ladder (mirror-rises (map view_tree old.views) c.args.b (state_on scene old.views old)) (ChangesBlock (setting_on scene old.views) c.args.b (Silently IsMirrored)) (state_on scene old.views old) c.in-Some.code text first line) c.line.ensures

pub returns-in_ok-mirror-in-None-clause-step : goal.returns-in_ok-mirror-in-None-clause-step
returns-in_ok-mirror-in-None-clause-step c = λ scene together.
    let old = c.args.board.now in
    mirror-done old c.args.b scene together c.mirror.new.self c.in_ok-text-in-None.text.items (verdict-on (λ trees s. read_ladder mirror_codes trees c.args.b s) c.blocks-2.result.now old None c.blocks-2.ensures c.in-None.ensures)
    c.in_ok-text-in-None.ensures c.in_ok-mirror-in-None.ensures.done

pub returns-in_ok-mirror-in-None-clause-setting : goal.returns-in_ok-mirror-in-None-clause-setting
returns-in_ok-mirror-in-None-clause-setting c = mirrored-carried c.args.board.now c.args.b c.mirror.new.self c.in_ok-mirror-in-None.ensures.done
