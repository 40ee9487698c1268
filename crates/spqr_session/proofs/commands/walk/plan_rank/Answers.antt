use Rattle.std.proofs.Common.{map, refl}
use Rattle.spqr_session.specs.Embedded.{view_tree, view_at}
use Rattle.spqr_session.specs.BlockCodes.{entry_codes, read_ladder}
use Rattle.spqr_session.specs.Planar.{IsPlaneAt}
use Rattle.spqr_session.specs.Members.{StandsAt}
use Rattle.spqr_session.specs.Products.{product_rank_codes}
use Rattle.spqr_session.specs.PlannedMoves.{IsMovesPlanAt, IsRankPlan}
use Rattle.spqr_session.proofs.Steps.{ok-map}
use Rattle.spqr_session.proofs.PlanarBlocks.{plane-there}
use Rattle.spqr_session.proofs.MovesPlanned.{moves-found}
use Rattle.spqr_session.proofs.WalkPlans.{rank-plan}
use Rattle.spqr_session.proofs.commands.walk.plan_rank.Goals as goal

pub returns-in-Ok : goal.returns-in-Ok
returns-in-Ok c =
    let views = c.args.blocks.now in
    let b = c.args.b in
    let v = view_at views b in
    let part = c.in-Ok.field-0-0.now in
    let p = c.in-Ok.plane.now in
    let there : IsPlaneAt views b part p = c.in-Ok.ensures in
    let r = c.args.r in
    λ s present. ok-map c.rank_of_plane.result (IsRankPlan r p) (IsMovesPlanAt (read_ladder (product_rank_codes r) (map view_tree views) b s) (StandsAt r) views b)
    (λ x h. moves-found (entry_codes (product_rank_codes r)) (StandsAt r) views b s present v x there.there refl (rank-plan v p (plane-there views b part p there) r x h)) c.rank_of_plane.ensures
