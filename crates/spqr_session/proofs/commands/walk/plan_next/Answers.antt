use Rattle.std.proofs.Common.{map, refl}
use Rattle.spqr_session.specs.Embedded.{view_tree, view_at}
use Rattle.spqr_session.specs.BlockCodes.{block_ladder}
use Rattle.spqr_session.specs.Planar.{IsPlaneAt}
use Rattle.spqr_session.specs.PlannedMoves.{IsNextPlanAt, IsStepPlan}
use Rattle.spqr_session.proofs.Steps.{ok-map}
use Rattle.spqr_session.proofs.PlanarBlocks.{plane-there}
use Rattle.spqr_session.proofs.WalkPlans.{next-plan, next-found}
use Rattle.spqr_session.proofs.commands.walk.plan_next.Goals as goal

pub returns-in-Ok : goal.returns-in-Ok
returns-in-Ok c =
    let views = c.args.blocks.now in
    let b = c.args.b in
    let v = view_at views b in
    let part = c.in-Ok.field-0-0.now in
    let p = c.in-Ok.plane.now in
    let there : IsPlaneAt views b part p = c.in-Ok.ensures in
    λ s present. ok-map c.next_of_plane.result (IsStepPlan p) (IsNextPlanAt (block_ladder (map view_tree views) b s) views b)
    (λ x h. next-found views b s present v x there.there refl (next-plan v p (plane-there views b part p there) x h)) c.next_of_plane.ensures
