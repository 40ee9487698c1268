use Rattle.std.proofs.Common.{map, refl, subst}
use Rattle.multigraph.specs.Part.{GraphPart, IsNumbered}
use Rattle.spqr_session.specs.Embedded.{view_tree, view_at}
use Rattle.spqr_session.specs.Planar.{IsPlaneAt}
use Rattle.spqr_session.specs.Planned.{IsLowestPlanAt, IsTakePlan}
use Rattle.spqr_session.specs.Commands.Take.{TakeApplies, IsTaken}
use Rattle.spqr_session.proofs.Steps.{ok-map}
use Rattle.spqr_session.proofs.PlanarBlocks.{part-there, plane-there}
use Rattle.spqr_session.proofs.TakePlans.{take-found, take-planned}
use Rattle.spqr_session.proofs.commands.take.plan_take.Goals as goal

pub returns-in-Ok : goal.returns-in-Ok
returns-in-Ok c =
    let views = c.args.blocks.now in
    let b = c.args.b in
    let v = view_at views b in
    let part = c.in-Ok.part.now in
    let p = c.in-Ok.plane.now in
    let there : IsPlaneAt views b part p = c.in-Ok.ensures in
    let entries = c.args.lists.now in
    let same = part-there views b part p there in
    let seen = plane-there views b part p there in
    λ s present. ok-map c.take_of_plane.result (IsTakePlan part entries p) (IsLowestPlanAt (TakeApplies (map view_tree views) b entries s) (IsTaken entries) views b)
    (λ x h. take-found entries views b s present v x there.there refl (take-planned entries v p seen (subst IsNumbered same c.graph.ensures.numbered) x (subst (λ (q : GraphPart). IsTakePlan q entries p x) same h))) c.take_of_plane.ensures
