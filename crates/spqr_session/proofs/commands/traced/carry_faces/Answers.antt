use Rattle.std.proofs.Common.{◌≡◌, refl, ap₂, ◌∙◌}
use Rattle.faces.specs.Trace.{face_lists}
use Rattle.spqr_script.specs.Answers.Faces.{faces_text}
use Rattle.spqr_session.specs.Embedded.{view_at}
use Rattle.spqr_session.specs.BlockCodes.{no_more, TellsBlock}
use Rattle.spqr_session.specs.Planar.{IsPlaneAt}
use Rattle.spqr_session.specs.Commands.Faces.{IsFaced}
use Rattle.spqr_session.proofs.Steps.{text-map}
use Rattle.spqr_session.proofs.Planes.{told-entry}
use Rattle.spqr_session.proofs.PlanarBlocks.{part-there, plane-there, plane-read}
use Rattle.spqr_session.proofs.commands.traced.carry_faces.Goals as goal

pub returns-in_ok-faces-in-Ok : goal.returns-in_ok-faces-in-Ok
returns-in_ok-faces-in-Ok c =
    let views = c.args.blocks.now in
    let b = c.args.b in
    let v = view_at views b in
    let part = c.in-Ok.part.now in
    let p = c.in-Ok.plane.now in
    let there : IsPlaneAt views b part p = c.in-Ok.ensures in
    let seen = plane-there views b part p there in
    let faces = c.in_ok-faces-in-Ok.faces in
    let traced : faces ≡ face_lists v.tree.part.graph p.rotation = c.in_ok-faces-in-Ok.ensures ∙ ap₂ face_lists (c.graph.ensures.value ∙ seen.graph) c.rotation.ensures.value in
    plane-read views b part p there no_more (λ tree e. refl) (IsFaced b) c.faces_lines.result
    (text-map c.faces_lines.result (λ text. text ≡ faces_text part b faces) (λ text. TellsBlock v.tree v.entry no_more (IsFaced b) text)
    (λ text e. told-entry v p seen no_more (IsFaced b) text (e ∙ ap₂ (λ q f. faces_text q b f) (part-there views b part p there) traced)) c.faces_lines.ensures)
