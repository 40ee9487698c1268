use Rattle.std.proofs.Common.{refl}
use Rattle.spqr_session.specs.Planar.{IsPlaneAt}
use Rattle.spqr_session.specs.Commands.Draw.{parallel_codes, IsDrawingAnswer}
use Rattle.spqr_session.proofs.PlanarBlocks.{plane-read}
use Rattle.spqr_session.proofs.commands.draw.carry_draw.Goals as goal

pub returns-in-Ok : goal.returns-in-Ok
returns-in-Ok c =
    let views = c.args.blocks.now in
    let b = c.args.b in
    let part = c.in-Ok.part.now in
    let p = c.in-Ok.plane.now in
    let there : IsPlaneAt views b part p = c.in-Ok.ensures in
    plane-read views b part p there parallel_codes (λ tree e. refl) (IsDrawingAnswer b) c.draw_plane.result (c.draw_plane.ensures views there)
