use Rattle.std.proofs.Common.{refl}
use Rattle.spqr_session.specs.Embedded.{view_at}
use Rattle.spqr_session.specs.BlockCodes.{entry_codes}
use Rattle.spqr_session.specs.Planar.{IsPlaneAt}
use Rattle.spqr_session.specs.Commands.Mirror.{mirror_codes}
use Rattle.spqr_session.proofs.MoveVerdicts.{mirror-verdict}
use Rattle.spqr_session.proofs.PlanarBlocks.{plane-there}
use Rattle.spqr_session.proofs.Plans.{verdict-found}
use Rattle.spqr_session.proofs.commands.mirror.code_of.Goals as goal

pub returns-in-Ok : goal.returns-in-Ok
returns-in-Ok c =
    let views = c.args.blocks.now in
    let b = c.args.b in
    let v = view_at views b in
    let part = c.in-Ok.field-0-0.now in
    let p = c.in-Ok.plane.now in
    let there : IsPlaneAt views b part p = c.in-Ok.ensures in
    λ s present. verdict-found (entry_codes mirror_codes) views b s present v c.code_of_plane.result there.there refl (mirror-verdict v p (plane-there views b part p there) c.code_of_plane.result c.code_of_plane.ensures)
