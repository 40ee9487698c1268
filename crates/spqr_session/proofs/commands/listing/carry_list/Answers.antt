use Rattle.std.proofs.Common.{refl}
use Rattle.spqr_session.specs.Embedded.{view_at}
use Rattle.spqr_session.specs.BlockCodes.{no_more}
use Rattle.spqr_session.specs.Planar.{IsPlaneAt}
use Rattle.spqr_session.specs.Commands.Listing.{IsListing}
use Rattle.spqr_session.proofs.MemberLines.{listing-told}
use Rattle.spqr_session.proofs.PlanarBlocks.{part-there, plane-there, plane-read}
use Rattle.spqr_session.proofs.commands.listing.carry_list.Goals as goal

pub returns-in-Ok : goal.returns-in-Ok
returns-in-Ok c =
    let views = c.args.blocks.now in
    let b = c.args.b in
    let v = view_at views b in
    let part = c.in-Ok.part.now in
    let p = c.in-Ok.plane.now in
    let there : IsPlaneAt views b part p = c.in-Ok.ensures in
    plane-read views b part p there no_more (λ tree e. refl) (IsListing b c.args.n) c.list_plane.result
    (listing-told v p (plane-there views b part p there) b c.args.n part c.list_plane.result (part-there views b part p there) c.list_plane.ensures)
