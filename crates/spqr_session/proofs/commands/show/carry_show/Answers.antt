use Rattle.std.proofs.Common.{◌≡◌, refl, ap₂, ◌∙◌}
use Rattle.spqr_script.specs.Answers.Rotation.{rotation_text}
use Rattle.spqr_session.specs.Embedded.{view_at}
use Rattle.spqr_session.specs.BlockCodes.{no_more, TellsBlock}
use Rattle.spqr_session.specs.Planar.{IsPlaneAt}
use Rattle.spqr_session.specs.Commands.Show.{IsShown}
use Rattle.spqr_session.proofs.Steps.{text-map}
use Rattle.spqr_session.proofs.Planes.{told-entry}
use Rattle.spqr_session.proofs.PlanarBlocks.{part-there, plane-there, plane-read}
use Rattle.spqr_session.proofs.commands.show.carry_show.Goals as goal

pub returns-in-Ok : goal.returns-in-Ok
returns-in-Ok c =
    let views = c.args.blocks.now in
    let b = c.args.b in
    let v = view_at views b in
    let part = c.in-Ok.part.now in
    let p = c.in-Ok.plane.now in
    let there : IsPlaneAt views b part p = c.in-Ok.ensures in
    plane-read views b part p there no_more (λ tree e. refl) (IsShown b) c.rotation_line.result
    (text-map c.rotation_line.result (λ text. text ≡ rotation_text part b c.rotation.result.now) (λ text. TellsBlock v.tree v.entry no_more (IsShown b) text)
    (λ text e. told-entry v p (plane-there views b part p there) no_more (IsShown b) text (e ∙ ap₂ (λ q r. rotation_text q b r) (part-there views b part p there) c.rotation.ensures.value)) c.rotation_line.ensures)
