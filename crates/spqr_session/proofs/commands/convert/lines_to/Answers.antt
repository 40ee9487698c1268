use Rattle.std.proofs.Common.{◌≡◌, List, All, sym, ap₂, ◌∙◌, subst}
use Rattle.multigraph.specs.Part.{GraphPart}
use Rattle.moves.specs.declared.values.Move.{Move}
use Rattle.spqr_script.specs.Answers.Moves.{moves_text, IsMoveOf}
use Rattle.spqr_session.specs.Planned.{TellsMoves}
use Rattle.spqr_session.proofs.Steps.{text-map}
use Rattle.spqr_session.proofs.Planes.{seen-plane}
use Rattle.spqr_session.proofs.ConvertPlans.{between-within, between-told}
use Rattle.spqr_session.proofs.commands.convert.lines_to.Goals as goal

pub moves_lines-requires : goal.moves_lines-requires
moves_lines-requires c =
    let v = c.args.block.now in
    let p = c.in-Plane.present in
    let list = c.in_ok-list-in-Plane in
    let seen = seen-plane v c.outcome.result.now p c.outcome.ensures.view c.outcome.ensures.right c.in-Plane.is in
    subst (λ (part : GraphPart). All (IsMoveOf part.graph) c.deref.result.now) (sym c.part.ensures)
    (subst (λ (l : List Move). All (IsMoveOf v.tree.part.graph) l) (sym c.deref.ensures.value) (between-within v p c.args.plane.now seen c.requires c.belongs.ensures list.list.items list.ensures.moves))

pub returns : goal.returns
returns c =
    let v = c.args.block.now in
    let p = c.in-Plane.present in
    let list = c.in_ok-list-in-Plane in
    let seen = seen-plane v c.outcome.result.now p c.outcome.ensures.view c.outcome.ensures.right c.in-Plane.is in
    text-map c.moves_lines.result (λ text. text ≡ moves_text c.part.result.now c.deref.result.now) (λ text. TellsMoves v c.args.plane.now text)
    (λ text e. between-told v p c.args.plane.now seen c.requires c.belongs.ensures list.list.items list.ensures.moves text (e ∙ ap₂ moves_text c.part.ensures c.deref.ensures.value)) c.moves_lines.ensures
