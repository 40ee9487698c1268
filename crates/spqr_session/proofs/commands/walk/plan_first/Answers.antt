use Rattle.std.proofs.Common.{map, refl}
use Rattle.spqr_session.specs.Embedded.{view_tree, view_at}
use Rattle.spqr_session.specs.BlockCodes.{planar_codes, block_ladder}
use Rattle.spqr_session.specs.Planar.{IsPlaneAt}
use Rattle.spqr_session.specs.Members.{StandsAt}
use Rattle.spqr_session.specs.PlannedMoves.{IsMovesPlanAt, IsFirstPlan}
use Rattle.spqr_session.proofs.Steps.{ok-map}
use Rattle.spqr_session.proofs.PlanarBlocks.{plane-there}
use Rattle.spqr_session.proofs.MovesPlanned.{moves-found}
use Rattle.spqr_session.proofs.WalkPlans.{first-plan}
use Rattle.spqr_session.proofs.commands.walk.plan_first.Goals as goal

pub returns-in-Ok : goal.returns-in-Ok
returns-in-Ok c =
    let views = c.args.blocks.now in
    let b = c.args.b in
    let v = view_at views b in
    let part = c.in-Ok.field-0-0.now in
    let p = c.in-Ok.plane.now in
    let there : IsPlaneAt views b part p = c.in-Ok.ensures in
    λ s present. ok-map c.first_of_plane.result (IsFirstPlan p) (IsMovesPlanAt (block_ladder (map view_tree views) b s) (StandsAt 0) views b)
    (λ x h. moves-found (λ tree entry. planar_codes entry) (StandsAt 0) views b s present v x there.there refl (first-plan v p (plane-there views b part p there) x h)) c.first_of_plane.ensures
